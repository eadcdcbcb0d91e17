-- `clear_counts` fills the counts with zeros.
use Rattle.build_tower.proofs.Towers.{cleared_length, cleared}
use Rattle.build_tower.proofs.clear_counts.Goals as goal

pub returns : goal.returns
returns c =
    let zeros = c.fill.ensures.after (λ y e. e) in
    (cleared _ _ c.requires zeros, cleared_length _ _ c.requires zeros)
