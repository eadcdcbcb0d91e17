-- What a first build is handed: a well formed build whose largest weight reaches the divisor, its queue in the work words.
use Rattle.std.specs.Prelude.{◌≡◌, List, ℕ, ◌≤◌, ◌<◌, length}
use Rattle.rules.specs.Lists.{sort}
use Rattle.rules.specs.Build.{Build, largest}
use Rattle.rules.specs.Queue.{heavier}
use Rattle.laws.specs.WellFormed.Plain.{Formed}
use Rattle.build_line.specs.Work.{line, count_at}

pub record Ready (b : Build) (ws : List ℕ) (h : ℕ) : Type 0 where
  pub formed : Formed b
  pub reach : b.set ≤ largest b.queue
  pub long : 13312 ≤ length ws
  pub head : h ≤ 512
  pub queue_is : line ws h ≡ sort heavier b.queue
  pub none : (k : ℕ) → k < 20 → count_at ws k ≡ 0
