-- A record appended where there is room; one law for each way.
use mathlib.Core.Path.{◌≡◌, refl, sym, ap, ap₂, ◌∙◌, subst}
use mathlib.Core.Logic.{◌⊎◌, inl, inr}
use mathlib.Core.Bool.{Bool, true, false, cond}
use mathlib.Core.List.{List, [], ◌∷◌, ◌++◌}
use Prim.Native.Nat.{ℕ, suc, ◌+◌, ◌*◌, ◌/◌, ◌≤◌, ◌<◌, max}
use native.Mathlib.Omega.{arith}
use lib.ListN.{length, take, length-append}
use lib.IntN.{ℤ}
use Rattle.rules.specs.Records.{Node, Record, node, output, waiting, node_of, node_at, node_image, record_image, literal_word, leaf_node, dummy_node}
use Rattle.rules.specs.Totalizer.{Arena, counts, joining, add, take_number}
use Rattle.records.specs.declared.Fields.{Fields}
use Rattle.records.specs.declared.Kind.TheVariants.{Leaf, Join, Dummy, Output, Waiting}
use Rattle.records.specs.Words.{fields, put_record}
use Rattle.records.specs.Carries.{Held, ended, St, st, store_of, marks_of, written, size, peak, Fits, Holds, Carries, Steps, Makes, Stores, on_records, with_records, with_record, placed}
use Rattle.records.proofs.Grow.{Grows, grows_trans, peak_append, records_more, record_grows}
use Rattle.records.proofs.Read.{size_words}
use Rattle.records.proofs.Step.{stop, going, filled, done, carried, held_stores, makes_steps, makes_same, makes_full}
use Rattle.records.proofs.Entry.{appended, kept_below}
use Rattle.records_append.specs.Fresh.{with_numbers}

peak_one : (r : Record) → peak (r ∷ []) ≡ size r
unfolding peak
peak_one r = omega arith

-- one record more: what it needs
more : (r : Record) (t : Arena) → (length (with_record r t).records ≡ length t.records + 1) × (peak (with_record r t).records ≡ max (peak t.records) (size r))
unfolding with_record with_records
more r t = (
  length-append t.records (r ∷ []),
  peak_append t.records (r ∷ []) ∙ ap (max (peak t.records)) (peak_one r),
)

module _ (s : List ℕ) (c : List ℤ) (m : Held) (r : Record) where
  pub append_stop : (x : ℕ) → m.full ≡ true → Makes (st s c m) (st s c m) x (placed r)
  unfolding placed
  append_stop x k = makes_full (st s c m) (st s c m) x (placed r) k (stop (st s c m) (with_record r) (record_grows r) k)

  module _ (k : m.full ≡ false) where
    pub append_none : (x : ℕ) → (length s / 8 ≤ m.records) ⊎ (4294967295 < m.records) → Makes (st s c m) (st s c ended) x (placed r)
    unfolding placed
    append_none x i =
        makes_full (st s c m) (st s c ended) x (placed r) refl (filled s c m (with_record r) k (λ e t h f hd q. nay e t h q hd i))
      where
        nay : (e : St) (t : Arena) → Carries e (st s c m) t → Fits e (with_record r t) → Holds e (st s c m) t →
            (length s / 8 ≤ m.records) ⊎ (4294967295 < m.records) → ⊥
        nay e t h q hd (inl i) = omega (arith, h.same_store, hd.records_is, q.records_fit, (more r t).0)
        nay e t h q hd (inr i) = omega (arith, hd.records_is, q.places_fit, (more r t).0)

    pub append_done : (s' : List ℕ) (x : Fields) → record_image r ≡ fields x → m.records < length s / 8 → m.records ≤ 4294967295 →
        x.maximum < 4294967296 → x.height < 4294967296 → s' ≡ put_record s m.records (fields x) →
        Makes (st s c m) (st s' c (record { records = m.records + 1; words = m.words; fresh = m.fresh; clauses = m.clauses; full = m.full }))
        m.records (placed r)
    unfolding placed with_record with_records written
    append_done s' x image i j top high p = record {
      go = λ e t h.
          let g : Fits e t × Holds e (st s c m) t = going e (st s c m) t h k in
          let f = g.0 in
          let hd = g.1 in
          let long : length s ≡ length (store_of e) = h.same_store in
          let here : m.records ≡ length t.records = hd.records_is in
          let one : length (t.records ++ (r ∷ [])) ≡ length t.records + 1 = (more r t).0 in
          let small : size r ≡ max x.maximum x.height = size_words r (fields x) image in (
            carried e (st s' c (record { records = m.records + 1; words = m.words; fresh = m.fresh; clauses = m.clauses; full = m.full })) (with_record r t)
                (record {
                  records_fit = omega arith;
                  words_fit = f.words_fit;
                  fresh_fit = f.fresh_fit;
                  places_fit = omega arith;
                  sizes_fit = omega (arith, (more r t).1, f.sizes_fit);
                })
                (record {
                  store_is = p ∙ (ap (put_record s m.records) (sym image) ∙ appended s (store_of e) t.records m.records r hd.store_is here (omega arith));
                  buffer_is = hd.buffer_is;
                  records_is = omega arith;
                  words_is = hd.words_is;
                  fresh_is = hd.fresh_is;
                  clauses_is = hd.clauses_is;
                  not_full = k;
                  records_low = omega (arith, hd.records_low);
                  words_low = hd.words_low;
                  count_low = hd.count_low;
                })
                (ap (take (8 * (marks_of e).records)) p ∙
                (kept_below s m.records (marks_of e).records (fields x) (omega (arith, hd.records_low)) i ∙ h.kept_store)),
            λ q. here,
          );
    }

-- the words of a join
join_image : (rs : List Record) (half : Bool) (l r top high b : ℕ) → top ≡ (joining rs half l r).maximum → high ≡ (joining rs half l r).height → b ≡ cond half 1 0 →
    record_image (node (joining rs half l r)) ≡ 2 ∷ l ∷ r ∷ b ∷ top ∷ high ∷ 0 ∷ 0 ∷ []
unfolding record_image node_image joining
join_image rs half l r top high b e f g =
    ap₂ (λ (x y : ℕ). 2 ∷ l ∷ r ∷ x ∷ y ∷ (joining rs half l r).height ∷ 0 ∷ 0 ∷ []) (sym g) (sym e) ∙
    ap (λ (x : ℕ). 2 ∷ l ∷ r ∷ b ∷ top ∷ x ∷ 0 ∷ 0 ∷ []) (sym f)

-- what `append` promises
abbrev pub Appends : St → St → ℕ → Fields → Type 0
Appends σ τ y x = (r : Record) → record_image r ≡ fields x → Makes σ τ y (placed r)

-- adding a node is appending its record
added : (n : Node) (t : Arena) → placed (node n) t ≡ on_records (λ rs. add rs n) t
unfolding placed with_record on_records add
added n t = refl

module _ (σ τ : St) (y : ℕ) where
  pub leaf_done : (w : ℕ) (x : ℤ) → w ≡ literal_word x →
      Appends σ τ y (record { kind = Leaf; a = w; b = 0; c = 0; maximum = 1; height = 0 }) → Makes σ τ y (on_records (λ rs. add rs (leaf_node x)))
  unfolding record_image node_image leaf_node
  leaf_done w x e p =
      makes_same σ τ y (placed (node (leaf_node x))) (on_records (λ rs. add rs (leaf_node x))) (added (leaf_node x))
      (p (node (leaf_node x)) (ap (λ (z : ℕ). 1 ∷ z ∷ 0 ∷ 0 ∷ 1 ∷ 0 ∷ 0 ∷ 0 ∷ []) (sym e)))

  pub dummy_done : Appends σ τ y (record { kind = Dummy; a = 0; b = 0; c = 0; maximum = 0; height = 0 }) → Makes σ τ y (on_records (λ rs. add rs dummy_node))
  unfolding record_image node_image dummy_node
  dummy_done p = makes_same σ τ y (placed (node dummy_node)) (on_records (λ rs. add rs dummy_node)) (added dummy_node) (p (node dummy_node) refl)

  pub waiting_done : (n w : ℕ) → Appends σ τ y (record { kind = Waiting; a = n; b = w; c = 0; maximum = 0; height = 0 }) →
      Steps σ τ (with_record (waiting (record { node = n; weight = w })))
  unfolding record_image placed
  waiting_done n w p =
      makes_steps σ τ y (placed (waiting (record { node = n; weight = w }))) (p (waiting (record { node = n; weight = w })) refl)

-- A join -----------------------------------------------------------------------------------------------------------------

-- the rule of joining, over an arena
unfoldable pub joined : Bool → ℕ → ℕ → Arena → Arena × ℕ
unfolding on_records add
joined half l r = on_records (λ rs. add rs (joining rs half l r))

joined_is : (half : Bool) (l r : ℕ) (t : Arena) → placed (node (joining t.records half l r)) t ≡ joined half l r t
unfolding joined placed with_record
joined_is half l r t = refl

pub join_grows : (half : Bool) (l r : ℕ) (t : Arena) → Grows t (on_records (λ rs. add rs (joining rs half l r)) t).0
unfolding on_records add
join_grows half l r t = records_more t (node (joining t.records half l r) ∷ [])

module _ (s : List ℕ) (c : List ℤ) (m : Held) (half : Bool) (l r : ℕ) where
  pub join_stop : (x : ℕ) → m.full ≡ true → Makes (st s c m) (st s c m) x (on_records (λ rs. add rs (joining rs half l r)))
  join_stop x k =
      makes_full (st s c m) (st s c m) x (on_records (λ rs. add rs (joining rs half l r))) k
      (stop (st s c m) (λ t. (on_records (λ rs. add rs (joining rs half l r)) t).0) (join_grows half l r) k)

  module _ (k : m.full ≡ false) where
    -- a join whose maximum or height does not fit a word
    over : (x : ℕ) → ((rs : List Record) → Stores s m.records rs → 4294967295 < size (node (joining rs half l r))) →
        Makes (st s c m) (st s c ended) x (on_records (λ rs. add rs (joining rs half l r)))
    unfolding on_records add with_record
    over x i =
        makes_full (st s c m) (st s c ended) x (on_records (λ rs. add rs (joining rs half l r))) refl
        (filled s c m (λ t. (on_records (λ rs. add rs (joining rs half l r)) t).0) k
        (λ e t h f hd q. omega (arith, (more (node (joining t.records half l r)) t).1, i t.records (held_stores e (st s c m) t hd), q.sizes_fit)))

    -- the maxima that the rule of joining reads
    module _ (lm rm rc top : ℕ) (elm : (rs : List Record) → Stores s m.records rs → lm ≡ (node_at rs l).maximum)
        (erm : (rs : List Record) → Stores s m.records rs → rm ≡ (node_at rs r).maximum) (erc : rc ≡ counts half rm) (etop : top ≡ lm + rc) where
      top_is : (rs : List Record) → Stores s m.records rs → top ≡ (joining rs half l r).maximum
      unfolding joining
      top_is rs h = etop ∙ ap₂ ◌+◌ (elm rs h) (erc ∙ ap (counts half) (erm rs h))

      pub join_over_top : (x : ℕ) → 4294967295 < top → Makes (st s c m) (st s c ended) x (on_records (λ rs. add rs (joining rs half l r)))
      unfolding size node_of
      join_over_top x i = over x (λ rs h. omega (arith, top_is rs h))

    -- and the heights
    module _ (lh rh high : ℕ) (elh : (rs : List Record) → Stores s m.records rs → lh ≡ (node_at rs l).height)
        (erh : (rs : List Record) → Stores s m.records rs → rh ≡ (node_at rs r).height) (ehigh : high ≡ suc (max lh rh)) where
      high_is : (rs : List Record) → Stores s m.records rs → high ≡ (joining rs half l r).height
      unfolding joining
      high_is rs h = ehigh ∙ ap₂ (λ (x y : ℕ). suc (max x y)) (elh rs h) (erh rs h)

      pub join_over_high : (x : ℕ) → 4294967295 < high → Makes (st s c m) (st s c ended) x (on_records (λ rs. add rs (joining rs half l r)))
      unfolding size node_of
      join_over_high x i = over x (λ rs h. omega (arith, high_is rs h))

    pub join_done : (lm rm rc lh rh top high : ℕ)
        (elm : (rs : List Record) → Stores s m.records rs → lm ≡ (node_at rs l).maximum)
        (erm : (rs : List Record) → Stores s m.records rs → rm ≡ (node_at rs r).maximum) (erc : rc ≡ counts half rm) (etop : top ≡ lm + rc)
        (elh : (rs : List Record) → Stores s m.records rs → lh ≡ (node_at rs l).height)
        (erh : (rs : List Record) → Stores s m.records rs → rh ≡ (node_at rs r).height) (ehigh : high ≡ suc (max lh rh))
        (τ : St) (y b : ℕ) → b ≡ cond half 1 0 →
        Appends (st s c m) τ y (record { kind = Join; a = l; b = r; c = b; maximum = top; height = high }) →
        Makes (st s c m) τ y (on_records (λ rs. add rs (joining rs half l r)))
    unfolding joined
    join_done lm rm rc lh rh top high elm erm erc etop elh erh ehigh τ y b eb p = record {
      go = λ e t h.
          let hd : Holds e (st s c m) t = (going e (st s c m) t h k).1 in
          let read : Stores s m.records t.records = held_stores e (st s c m) t hd in
          subst (λ (z : Arena × ℕ). Carries e τ z.0 × (Fits e z.0 → y ≡ z.1)) (joined_is half l r t)
          ((p (node (joining t.records half l r)) (join_image t.records half l r top high b (top_is lm rm rc top elm erm erc etop t.records read) (high_is lh rh high elh erh ehigh t.records read) eb)).go e t h);
    }

-- An output -----------------------------------------------------------------------------------------------------------------

pub fresh_grows : (k : ℕ) (t : Arena) → Grows t (with_numbers k t)
unfolding with_numbers
fresh_grows k t = record { records_grow = omega arith; words_grow = omega arith; fresh_grow = omega arith; sizes_grow = omega arith }

module _ (s : List ℕ) (c : List ℤ) (m : Held) (many : ℕ) where
  pub fresh_stop : m.full ≡ true → Steps (st s c m) (st s c m) (with_numbers many)
  fresh_stop k = stop (st s c m) (with_numbers many) (fresh_grows many) k

  module _ (k : m.full ≡ false) where
    pub fresh_end : 1000000001 < m.fresh + many → Steps (st s c m) (st s c ended) (with_numbers many)
    unfolding with_numbers
    fresh_end i = filled s c m (with_numbers many) k (λ e t h f hd q. omega (arith, hd.fresh_is, q.fresh_fit))

    pub fresh_done : m.fresh + many ≤ 1000000001 →
        Steps (st s c m) (st s c (record { records = m.records; words = m.words; fresh = m.fresh + many; clauses = m.clauses; full = m.full })) (with_numbers many)
    unfolding with_numbers written
    fresh_done i = done _ _ (with_numbers many) k (λ e t h f hd. (
      (
        record { records_fit = f.records_fit; words_fit = f.words_fit; fresh_fit = omega (arith, hd.fresh_is); places_fit = f.places_fit; sizes_fit = f.sizes_fit },
        record {
          store_is = hd.store_is;
          buffer_is = hd.buffer_is;
          records_is = hd.records_is;
          words_is = hd.words_is;
          fresh_is = omega (arith, hd.fresh_is);
          clauses_is = hd.clauses_is;
          not_full = k;
          records_low = hd.records_low;
          words_low = hd.words_low;
          count_low = hd.count_low;
        },
      ),
      h.kept_store,
    ))

output_of : ℕ → ℕ → ℕ → Record
output_of n v w = output (record { node = n; value = v; number = w })

taken_is : (n v : ℕ) (t : Arena) → with_numbers 1 (with_record (output_of n v t.fresh) t) ≡ take_number n v t
unfolding with_numbers with_record with_records take_number output_of
taken_is n v t =
    let one : t.fresh + 1 ≡ suc t.fresh = omega arith in
    ap (λ (k : ℕ). record { records = t.records ++ (output_of n v t.fresh ∷ []); fresh = k; clauses = t.clauses }) one

pub number_grows : (n v : ℕ) (t : Arena) → Grows t (take_number n v t)
number_grows n v t =
    subst (Grows t) (taken_is n v t)
    (grows_trans t (with_record (output_of n v t.fresh) t) (with_numbers 1 (with_record (output_of n v t.fresh) t))
    (record_grows (output_of n v t.fresh) t) (fresh_grows 1 (with_record (output_of n v t.fresh) t)))

module _ (s : List ℕ) (c : List ℤ) (m : Held) (n v : ℕ) where
  pub output_stop : m.full ≡ true → Steps (st s c m) (st s c m) (take_number n v)
  output_stop k = stop (st s c m) (take_number n v) (number_grows n v) k

  module _ (k : m.full ≡ false) where
    pub output_end : 1000000000 < m.fresh → Steps (st s c m) (st s c ended) (take_number n v)
    unfolding take_number
    output_end i = filled s c m (take_number n v) k (λ e t h f hd q. omega (arith, hd.fresh_is, q.fresh_fit))

    pub output_done : (τ υ : St) (y : ℕ) → Appends (st s c m) τ y (record { kind = Output; a = n; b = v; c = 2 * m.fresh; maximum = 0; height = 0 }) →
        Steps τ υ (with_numbers 1) → Steps (st s c m) υ (take_number n v)
    unfolding record_image literal_word placed output_of
    output_done τ υ y p q = record {
      go = λ e t h.
          let hd : Holds e (st s c m) t = (going e (st s c m) t h k).1 in
          let r : Record = output (record { node = n; value = v; number = t.fresh }) in
          subst (Carries e υ) (taken_is n v t)
          (q.go e (with_record r t) ((p r (ap (λ (w : ℕ). 4 ∷ n ∷ v ∷ 2 * w ∷ 0 ∷ 0 ∷ 0 ∷ 0 ∷ []) (sym hd.fresh_is))).go e t h).0);
    }
