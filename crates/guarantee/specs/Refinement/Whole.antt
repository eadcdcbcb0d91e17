-- Refinement whole: the refined build weighs the inputs at the finer divisor, and its clauses mean its outputs.
use Rattle.std.specs.Prelude.{◌≡◌, ◌≢◌, Bool, true, false, drop, replicate, ℤ}
use Rattle.std.proofs.Math.Path.{refl, ap, ap₂, subst}
use Rattle.std.proofs.Common.{sym, ◌∙◌, arith, one-mul, mul-add, mul_assoc, length-drop, take-append-drop, length-take-le, pow_pos, pow-add}
use mathlib.Core.List.{List, [], ◌∷◌, ◌++◌, map}
use Prim.Native.Nat.{ℕ, zero, suc, ◌+◌, ◌*◌, ◌-◌, ◌^◌, ◌≤◌, ◌<◌}
use Rattle.std.proofs.Math.ListN.{length, take, length-append}
use Rattle.std.proofs.lemmas.List.{length-replicate}
use Rattle.rules.specs.Lists.{rising}
use Rattle.rules.specs.Digits.{top_bit}
use Rattle.rules.specs.Records.{Kind, join, Node, Entry, Record, node_at, left_link}
use Rattle.rules.specs.Build.{Build, largest, some_wait}
use Rattle.rules.specs.Queue.{Sorting, queue_run, gathered}
use Rattle.rules.specs.Buckets.{buckets_over}
use Rattle.rules.specs.Refinement.{tares_left_out}
use Rattle.laws.specs.Lists.Facts.{All, All_map, All_append, All_drop, All_self, occurs, occurs_none, rising_length}
use Rattle.laws.specs.Numbers.Powers.{top_bit_least}
use Rattle.laws.specs.Records.Places.{place, place_inside, join_place}
use Rattle.laws.specs.WellFormed.Plain.{Sound, Linked, Built, Formed}
use Rattle.laws.specs.Totalizer.Grows.{Grown, grown_then, grown_place}
use Rattle.laws.specs.Queue.Runs.{some_waits}
use Rattle.laws.specs.Buckets.Chains.{linked_grown, lefts_grown}
use Rattle.laws.specs.Buckets.Towers.{Tower}
use Rattle.laws.specs.Refinement.Relinks.{climb, linked_joins, Climbed, climbed}
use Rattle.laws.specs.Refinement.Patches.{links_apart}
use Rattle.preserve.specs.Gathered.{begun, Gathered, gathered_made}
use Rattle.preserve.specs.Given.{waiting_below, buckets_there, buckets_inside}
use Rattle.guarantee.specs.Meaning.Truth.{Truths}
use Rattle.guarantee.specs.Meaning.Values.{value, value_leaf, value_dummy, value_join}
use Rattle.guarantee.specs.Counting.Sums.{Begins, begins_then, begins_length, begins_at, Reads, reads_before}
use Rattle.guarantee.specs.Counting.Queues.{heap, waited, waited_none, waited_cong, run_begins}
use Rattle.guarantee.specs.Counting.Filling.{filled_law}
use Rattle.guarantee.specs.Counting.Chains.{units, tare_sum, tops, tops_length}
use Rattle.guarantee.specs.Counting.Buckets.{Inside, counted, over_all}
use Rattle.guarantee.specs.Meaning.Keeping.{value_stays}
use Rattle.guarantee.specs.Refinement.Patching.{moved}
use Rattle.guarantee.specs.Promise.{sum_of}
use Rattle.guarantee.specs.Counting.Weighing.{values, WeighsBuilt}
use Rattle.guarantee.specs.Refinement.Weights.{filled_all, heap_append, lefts, tops_lefts, tops_append, refined_sum}

module _ (b : Build) (f : Formed b) (built : b.built ≢ 0) (reach : b.set ≤ largest b.queue) where
  abbrev pub old : List Record
  old = b.arena.records

  abbrev pub B : List ℕ
  B = b.buckets

  u : Built b
  u = f.if_built built

  abbrev pub p : ℕ
  p = top_bit b.set

  abbrev pub end : ℕ
  end = top_bit b.built

  set_is : b.set ≡ 2 ^ p
  set_is = f.set_power

  built_is : b.built ≡ 2 ^ end
  built_is = u.power

  p_end : p ≤ end
  p_end = top_bit_least p b.built (omega (arith, set_is, u.coarser))

  powers : largest b.queue < 2 ^ end
  powers = waiting_below b f built

  pub bucket_joins : All (λ n. (half : Bool) × (l : ℕ) × (r : ℕ) × ((node_at old n).kind ≡ join half l r)) B
  bucket_joins = linked_joins (node_at old) (some_wait b.queue) B u.linked

  waiting : some_wait b.queue ≡ true
  waiting = some_waits b.queue (omega (arith, set_is, pow_pos p))

  chain : Linked (node_at old) true B
  chain = subst (λ (w : Bool). Linked (node_at old) w B) waiting u.linked

  made : Gathered b end (λ q. Unit {0})
  made = gathered_made b f end (buckets_inside b f) powers reach (λ q. Unit {0}) (λ q ok e h. tt) tt

  abbrev pub q : Sorting
  q = gathered b end

  abbrev pub wait : Bool
  wait = some_wait q.queue

  abbrev pub fresh_tares : List ℕ
  fresh_tares = rising (end - p) b.arena.fresh

  abbrev pub own : List ℕ
  own = tares_left_out b

  abbrev pub mss : List (List ℕ)
  mss = drop p q.members ++ replicate (length own) []

  fresh_count : length fresh_tares ≡ end - p
  fresh_count = rising_length (end - p) b.arena.fresh

  drop_count : length (drop p q.members) ≡ end - p
  drop_count = omega (arith, length-drop p q.members, made.gathers.count)

  pub mss_count : length mss ≡ length fresh_tares + length own
  mss_count = omega (arith, length-append (drop p q.members) (replicate {A = List ℕ} (length own) []), drop_count, length-replicate {A = List ℕ} (length own) [], fresh_count)

  begins_queue : Begins old q.records
  unfolding gathered
  begins_queue = run_begins (largest b.queue) b.set (begun b end)

  inside : Inside q.records mss
  inside =
      All_append (λ ms. All (λ m. m < length q.records) ms) (drop p q.members) (replicate (length own) [])
      (All_drop (λ ms. All (λ m. m < length q.records) ms) p q.members (All_map (λ ms h. All_map (place_inside q.records) ms h) q.members made.gathers.members_there))
      (empty (length own))
    where
      empty : (n : ℕ) → Inside q.records (replicate n [])
      empty zero = tt
      empty (suc n) = (tt, empty n)

  -- what the new segment and the tares between and once left out count
  pub segment : (t : Truths) (g : ℕ → ℕ) → Reads (length old) t g (buckets_over wait q.records [] (fresh_tares ++ own) mss).0 →
      (m : ℕ) × (m + length (buckets_over wait q.records [] (fresh_tares ++ own) mss).1 ≡ length mss) ×
      (2 ^ m * counted g wait (buckets_over wait q.records [] (fresh_tares ++ own) mss) ≡ heap g mss + 2 ^ m * tare_sum t (drop m (fresh_tares ++ own)))
  segment t g reads =
      over_all (length old) t g wait q.records (fresh_tares ++ own) mss (begins_length old q.records begins_queue)
      (filled_all (fresh_tares ++ own) mss (omega (arith, mss_count, length-append fresh_tares own))) (omega (arith, mss_count, length-append fresh_tares own)) inside reads

  -- what the queue put into the new buckets, and left
  law : (t : Truths) (g : ℕ → ℕ) → Reads (length old) t g q.records → (j k : ℕ) → k + j ≡ p → 2 ^ j * heap g (drop p q.members) + waited g (2 ^ k) q.queue ≡ waited g (2 ^ k) b.queue
  unfolding gathered
  law t g reads j k is =
      subst (λ (d : ℕ). length (queue_run (largest b.queue) d (begun b end)).members ≡ end → Reads (length old) t g (queue_run (largest b.queue) d (begun b end)).records →
      2 ^ j * heap g (drop p (queue_run (largest b.queue) d (begun b end)).members) + waited g (2 ^ k) (queue_run (largest b.queue) d (begun b end)).queue ≡ waited g (2 ^ k) b.queue)
      (sym set_is)
      (λ count r. filled_law (length old) t g p end old b.queue p_end powers (omega arith) count r j k is)
      made.gathers.count reads

  low : All (λ e. e.weight < 2 ^ p) q.queue
  low = All_map (λ e h. omega (arith, set_is)) q.queue made.low

  -- over records in which the new buckets stand
  module _ (rs : List Record) (d : ℕ) (ds : List ℕ) (tower : Tower wait B q.records (length q.records) [] mss (rs, d ∷ ds)) (begins : Begins q.records rs)
      (count : (t : Truths) (g : ℕ → ℕ) → Reads (length old) t g rs → (m : ℕ) × (m + length (d ∷ ds) ≡ length mss) × (2 ^ m * counted g wait (rs, d ∷ ds) ≡ heap g mss + 2 ^ m * tare_sum t (drop m (fresh_tares ++ own)))) where
    abbrev pub R : List Record
    R = climb rs d B

    pub grown : Grown old rs
    grown = grown_then old q.records rs made.gathers.grown tower.grown

    pub begins_all : Begins old rs
    begins_all = begins_then old q.records rs begins_queue begins

    pub chain_rs : Linked (node_at rs) true B
    chain_rs = linked_grown old rs f.sound grown true B (buckets_there b f) chain

    pub up : Climbed rs B d tower.standing.sound tower.standing.others tower.standing.there.0 tower.standing.apart.0 B R
    up = climbed rs B d tower.standing.sound tower.standing.others tower.standing.there.0 tower.standing.apart.0 B chain_rs
        (All_map (grown_place old rs grown) B (buckets_there b f)) (All_self B) (lefts_grown old rs f.sound grown B (buckets_there b f) u.lefts)

    -- a place past the old records is no bucket
    later : (n : ℕ) → length old ≤ n → occurs n B ≡ 0
    later n h = occurs_none (λ a. a < length old) n B (buckets_inside b f) (λ (k : n < length old). omega arith)

    module _ (sound : Sound (node_at R) (place R)) (t : Truths) where
      abbrev pub g : ℕ → ℕ
      g n = value (node_at R) t n

      kind_later : (n : ℕ) → length old ≤ n → (node_at R n).kind ≡ (node_at rs n).kind
      kind_later n h = ap (λ (nd : Node). nd.kind) (up.same n (later n h))

      reads : Reads (length old) t g rs
      reads = record {
        joins = λ n half l r h e. value_join (node_at R) (place R) sound t n half l r (kind_later n h ∙ e);
        leaves = λ n x h e. value_leaf (node_at R) (place R) sound t n x (kind_later n h ∙ e);
        dummies = λ n h i e. value_dummy (node_at R) (place R) sound t n (kind_later n h ∙ e);
      }

      -- nodes that are no buckets keep their values
      stays : (n : ℕ) → place old n ≡ true → occurs n B ≡ 0 → g n ≡ values b t n
      stays n h o =
          value_stays (node_at old) (node_at R) (λ m. (place old m ≡ true) × (occurs m B ≡ 0))
          (λ m k. up.same m k.1 ∙ begins_at old rs begins_all m (place_inside old m k.0))
          (λ m half l r k e.
          let (pl, pr) = (f.sound m).links_are half l r e in
          let (ol, or) = apart m half l r k.1 e in
          ((pl, ol), (pr, or))) t n (h, o)
        where
          apart : (m : ℕ) (half : Bool) (l r : ℕ) → occurs m B ≡ 0 → (node_at old m).kind ≡ join half l r → (occurs l B ≡ 0) × (occurs r B ≡ 0)
          apart m half l r o e =
              let e' : (node_at rs m).kind ≡ join half l r = ap (λ (nd : Node). nd.kind) (begins_at old rs begins_all m (place_inside old m (join_place old m half l r e))) ∙ e in
              links_apart (node_at rs) B tower.standing.others m o half l r e'

      queued : (k : ℕ) → waited g (2 ^ k) b.queue ≡ waited (values b t) (2 ^ k) b.queue
      queued k = waited_cong g (values b t) (2 ^ k) b.queue (zip b.queue f.waiting_are.nodes_wait f.entries_spare)
        where
          zip : (es : List Entry) → All (λ e. place old e.node ≡ true) es → All (λ e. occurs e.node B ≡ 0) es → All (λ e. g e.node ≡ values b t e.node) es
          zip [] a c = tt
          zip (e ∷ es) a c = (stays e.node a.0 c.0, zip es a.1 c.1)

      -- the members of the old buckets are those they had, and count what they did
      lefts_kept : (bs : List ℕ) → All (λ n. 1 ≤ occurs n B) bs → All (λ n. place old n ≡ true) bs → lefts (node_at R) bs ≡ lefts (node_at old) bs
      unfolding left_link
      lefts_kept [] a c = refl
      lefts_kept (n ∷ bs) a c =
          let m = moved rs B d tower.standing.sound tower.standing.others tower.standing.there.0 tower.standing.apart.0 R up chain_rs n a.0 in
          let same : node_at rs n ≡ node_at old n = begins_at old rs begins_all n (place_inside old n c.0) in
          ap₂ (λ (x : ℕ) (xs : List ℕ). x ∷ xs)
          (ap left_link m.new ∙ (sym (ap left_link m.old) ∙ ap (λ (nd : Node). left_link nd.kind) same)) (lefts_kept bs a.1 c.1)

      lefts_count : (bs : List ℕ) → All (λ n. (half : Bool) × (l : ℕ) × (r : ℕ) × ((node_at old n).kind ≡ join half l r)) bs → map g (lefts (node_at old) bs) ≡ map (values b t) (lefts (node_at old) bs)
      unfolding left_link
      lefts_count [] a = refl
      lefts_count (n ∷ bs) ((half, l, r, e), a) =
          let is : left_link (node_at old n).kind ≡ l = ap left_link e in
          let here : g (left_link (node_at old n).kind) ≡ values b t (left_link (node_at old n).kind) =
          subst (λ (i : ℕ). g i ≡ values b t i) (sym is) (stays l ((f.sound n).links_are half l r e).0 (f.spares n half l r e).0) in
          ap₂ (λ (x : ℕ) (xs : List ℕ). x ∷ xs) here (lefts_count bs a)

      new_tops : tops (node_at R) wait (d ∷ ds) ≡ tops (node_at rs) wait (d ∷ ds)
      new_tops = go wait (d ∷ ds) tower.fresh
        where
          go : (w : Bool) (bs : List ℕ) → All (λ n. length q.records ≤ n) bs → tops (node_at R) w bs ≡ tops (node_at rs) w bs
          go w [] a = refl
          go true (n ∷ []) a = ap (λ (k : Kind). left_link k ∷ []) (kind_later n (omega (arith, a.0, begins_length old q.records begins_queue)))
          go false (n ∷ []) a = refl
          go w (n ∷ c ∷ bs) a =
              ap₂ (λ (k : Kind) (xs : List ℕ). left_link k ∷ xs) (kind_later n (omega (arith, a.0, begins_length old q.records begins_queue))) (go w (c ∷ bs) a.1)

      all_tops : tops (node_at R) wait (B ++ (d ∷ ds)) ≡ lefts (node_at old) B ++ tops (node_at rs) wait (d ∷ ds)
      all_tops = tops_append (node_at R) wait B d ds ∙ ap₂ (λ (xs ys : List ℕ). xs ++ ys) (lefts_kept B (All_self B) (buckets_there b f)) new_tops

      abbrev pub left : ℕ
      left = length mss - length (d ∷ ds)

      pub at_left : (left + length (d ∷ ds) ≡ length mss) × (2 ^ left * counted g wait (rs, d ∷ ds) ≡ heap g mss + 2 ^ left * tare_sum t (drop left (fresh_tares ++ own)))
      at_left =
          let (m, is, e) = count t g reads in
          let same : m ≡ length mss - length (d ∷ ds) = omega arith in
          subst (λ (i : ℕ). (i + length (d ∷ ds) ≡ length mss) × (2 ^ i * counted g wait (rs, d ∷ ds) ≡ heap g mss + 2 ^ i * tare_sum t (drop i (fresh_tares ++ own)))) same (is, e)

      module _ (xs : List ℤ) (ws : List ℕ) (w : WeighsBuilt xs ws b) where
        lo : ℕ
        lo = w.left_out

        lo_few : lo ≤ length b.tares
        unfolding lo
        lo_few = omega (arith, w.left_count, u.some)

        own_is : own ≡ take lo b.tares
        unfolding tares_left_out lo
        own_is =
            let few : suc (length b.tares) - length B ≡ w.left_out = omega (arith, w.left_count) in
            ap (λ (n : ℕ). take n b.tares) few

        own_count : length own ≡ lo
        own_count = ap length own_is ∙ length-take-le lo b.tares lo_few

        old_counts : 2 ^ lo * units (map g (lefts (node_at old) B)) ≡ sum_of xs ws b.built t + 2 ^ lo * tare_sum t (drop lo b.tares)
        unfolding lo
        old_counts =
            ap (λ (ys : List ℕ). 2 ^ w.left_out * units ys) (lefts_count B bucket_joins ∙ ap (map (values b t)) (sym (ap (λ (x : Bool). tops (node_at old) x B) waiting ∙ tops_lefts (node_at old) B))) ∙ w.counts t

        h : ℕ
        h = heap g (drop p q.members)

        heap_is : heap g mss ≡ h
        unfolding h
        heap_is = heap_append g (drop p q.members) (length own)

        fine : (j k : ℕ) → k + j ≡ p → 2 ^ j * h + waited g (2 ^ k) q.queue ≡ waited (values b t) (2 ^ k) b.queue
        unfolding h
        fine j k is = law t g (reads_before (length old) t g q.records rs begins reads) j k is ∙ queued k

        -- the weights at the finer divisor: the old buckets' part, shifted, and the new ones'
        whole : sum_of xs ws b.set t ≡ 2 ^ (end - p) * sum_of xs ws b.built t + h
        whole =
            let none : waited g (2 ^ p) q.queue ≡ 0 = waited_none g (2 ^ p) q.queue low in
            let at_p : sum_of xs ws (2 ^ p) t ≡ sum_of xs ws b.set t = ap (λ (e : ℕ). sum_of xs ws e t) (sym set_is) in
            omega (arith, w.rest (end - p) p t (omega (arith, p_end)), fine 0 p (omega arith), one-mul h)

        tares_are : own ++ drop lo b.tares ≡ b.tares
        tares_are = ap (λ (ys : List ℕ). ys ++ drop lo b.tares) own_is ∙ take-append-drop lo b.tares

        pub refined_counts : 2 ^ left * units (map g (tops (node_at R) wait (B ++ (d ∷ ds)))) ≡ sum_of xs ws b.set t + 2 ^ left * tare_sum t (drop left (fresh_tares ++ b.tares))
        refined_counts =
            ap (λ (ys : List ℕ). 2 ^ left * units (map g ys)) all_tops ∙
            (refined_sum t g (lefts (node_at old) B) (tops (node_at rs) wait (d ∷ ds)) fresh_tares own (drop lo b.tares) left lo (sum_of xs ws b.built t) (heap g mss) own_count
            (ap (λ (n : ℕ). left + n) (tops_length (node_at rs) wait (d ∷ ds)) ∙ (at_left.0 ∙ mss_count)) old_counts at_left.1 ∙
            ap₂ (λ (s : ℕ) (ys : List ℕ). s + 2 ^ left * tare_sum t (drop left (fresh_tares ++ ys)))
            (ap₂ (λ (n x : ℕ). 2 ^ n * sum_of xs ws b.built t + x) fresh_count heap_is ∙ sym whole) tares_are)

        pub refined_rest : (j k : ℕ) → k + j ≡ p → sum_of xs ws (2 ^ k) t ≡ 2 ^ j * sum_of xs ws b.set t + waited g (2 ^ k) q.queue
        refined_rest j k is =
            let s : ℕ = sum_of xs ws b.built t in
            let power : 2 ^ (j + (end - p)) * s ≡ 2 ^ j * (2 ^ (end - p) * s) = ap (λ (n : ℕ). n * s) (pow-add 2 j (end - p)) ∙ mul_assoc (2 ^ j) (2 ^ (end - p)) s in
            let apart : 2 ^ j * sum_of xs ws b.set t ≡ 2 ^ j * (2 ^ (end - p) * s) + 2 ^ j * h = ap (λ (n : ℕ). 2 ^ j * n) whole ∙ mul-add (2 ^ j) (2 ^ (end - p) * s) h in
            omega (arith, w.rest (j + (end - p)) k t (omega (arith, p_end, is)), fine j k is)

        pub refined_left : left + length (B ++ (d ∷ ds)) ≡ suc (length (fresh_tares ++ b.tares))
        unfolding lo
        refined_left = omega (arith, at_left.0, mss_count, own_count, w.left_count, length-append B (d ∷ ds), length-append fresh_tares b.tares)
