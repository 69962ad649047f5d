-- Laws of the connectors: the type of each by its bits, all of them one by one, and what is left of them where one is changed. Whoever reads or
-- changes connectors goes by these.
use Rattle.std.proofs.Common.{◌≡◌, ℕ, zero, suc, ◌^◌, ◌<◌, ◌≤◌, Bool, true, false, cond, ◌&&◌, ◌||◌, eqb, List, length, get_or, set, sym, refl, ap, ◌∙◌, arith, length-set, take_all, get_or-set_other, get_or-set_same, ltb-false, eq-eqb, eqb-true}
use native.Mathlib.Decide.{ℕ_discrete}
use lib.Seq.{set-get_or}
use Rattle.words.specs.Bits.{bit_at, with_bit}
use Rattle.words.proofs.Bools.{and_left, and_right}
use Rattle.words.proofs.Laws.{built-lt, built-of-bits, built-same, bit-built, bit-with-same, bit-with-other, with-lt}
use Rattle.words.proofs.Listed.{length-listed, listed_at, listed_same, listed-take}
use Rattle.card.specs.declared.card.Connector.{Connector}
use Rattle.card.specs.declared.card.Connectors.{Connectors}
use Rattle.card.specs.Address.{connector_count}
use Rattle.card.specs.Connectors.{input, open_drain_type, push_pull_type, is_output, kind_at, source_at, connector_at, with_kind, with_source, each, no_connector}
use Rattle.card.specs.Connectors.{from_each, well_formed}
use Rattle.card.specs.Valid.{bad_connector_type}

-- ---- a type by its bits

module _ (d : Connectors) (k : ℕ) where
  by_bits : (P : ℕ → Bool → Bool → Type 0) → P push_pull_type true true → P push_pull_type true false → P open_drain_type false true → P input false false
      → P (kind_at d k) (bit_at d.push_pull k) (bit_at d.open_drain k)
  unfolding kind_at
  by_bits P both push drain none = go (bit_at d.push_pull k) (bit_at d.open_drain k)
    where
      go : (p o : Bool) → P (cond p push_pull_type (cond o open_drain_type input)) p o
      go true true = both
      go true false = push
      go false true = drain
      go false false = none

  pub kind-push : eqb (kind_at d k) push_pull_type ≡ bit_at d.push_pull k
  kind-push = by_bits (λ v p o. eqb v push_pull_type ≡ p) refl refl refl refl

  pub kind-output : is_output (kind_at d k) ≡ (bit_at d.push_pull k || bit_at d.open_drain k)
  kind-output = by_bits (λ v p o. is_output v ≡ (p || o)) refl refl refl refl

  -- there are no other types
  pub type-known : bad_connector_type (kind_at d k) ≡ false
  unfolding bad_connector_type
  type-known = by_bits (λ v p o. bad_connector_type v ≡ false) refl refl refl refl

-- ---- one by one

pub length-each : (d : Connectors) → length (each d) ≡ connector_count
unfolding each
length-each d = length-listed (connector_at d) connector_count

pub each_at : (d : Connectors) (k : ℕ) → k < connector_count → get_or (each d) k no_connector ≡ connector_at d k
unfolding each
each_at d k h = listed_at (connector_at d) connector_count k no_connector h

-- a known type is the type of its bits
known-bits : (v : ℕ) → v ≤ push_pull_type → cond (eqb v push_pull_type) push_pull_type (cond (eqb v open_drain_type) open_drain_type input) ≡ v
known-bits zero h = refl
known-bits (suc zero) h = refl
known-bits (suc (suc zero)) h = refl
known-bits (suc (suc (suc v))) h = absurd (omega arith)

-- all types of a list are known
abbrev pub Known : List Connector → Type 0
Known cs = (k : ℕ) → k < connector_count → bad_connector_type (get_or cs k no_connector).kind ≡ false

module _ (cs : List Connector) (long : length cs ≡ connector_count) (known : Known cs) where
  from-kind : (k : ℕ) → k < connector_count → kind_at (from_each cs) k ≡ (get_or cs k no_connector).kind
  unfolding kind_at from_each bad_connector_type
  from-kind k h =
      rw (
        bit-built (λ j. eqb (get_or cs j no_connector).kind push_pull_type) connector_count k h,
        bit-built (λ j. eqb (get_or cs j no_connector).kind open_drain_type) connector_count k h,
      )
      (known-bits (get_or cs k no_connector).kind (ltb-false push_pull_type (get_or cs k no_connector).kind (known k h)))

  from-source : (k : ℕ) → k < connector_count → source_at (from_each cs) k ≡ (get_or cs k no_connector).source
  unfolding source_at from_each
  from-source k h = listed_at (λ j. (get_or cs j no_connector).source) connector_count k 0 h

  pub each_from : each (from_each cs) ≡ cs
  unfolding each
  each_from =
      listed_same (connector_at (from_each cs)) (λ k. get_or cs k no_connector) connector_count
      (λ k h i. record { kind = from-kind k h i; source = from-source k h i })
      ∙ listed-take cs no_connector connector_count (omega arith) ∙ take_all connector_count cs (omega arith)

  pub from-formed : well_formed (from_each cs) ≡ true
  unfolding well_formed from_each
  from-formed =
      rw (
        each_from,
        eq-eqb _ connector_count (length-listed (λ k. (get_or cs k no_connector).source) connector_count),
        eq-eqb (from_each cs).push_pull (from_each cs).push_pull refl,
        eq-eqb (from_each cs).open_drain (from_each cs).open_drain refl,
      )

-- ---- connectors as lines leave them

-- what a list has, bit by bit and source by source, is made of it
from-unique : (d : Connectors) (cs : List Connector) → length d.sources ≡ connector_count → d.push_pull < 2 ^ connector_count
    → d.open_drain < 2 ^ connector_count
    → ((k : ℕ) → k < connector_count → source_at d k ≡ (get_or cs k no_connector).source)
    → ((k : ℕ) → k < connector_count → bit_at d.push_pull k ≡ eqb (get_or cs k no_connector).kind push_pull_type)
    → ((k : ℕ) → k < connector_count → bit_at d.open_drain k ≡ eqb (get_or cs k no_connector).kind open_drain_type) → d ≡ from_each cs
unfolding from_each source_at
from-unique d cs long push drain sources pushes drains =
    let first = sym (take_all connector_count d.sources (omega arith)) ∙ sym (listed-take d.sources 0 connector_count (omega arith))
    ∙ listed_same (λ k. get_or d.sources k 0) (λ k. (get_or cs k no_connector).source) connector_count sources in
    let second = sym (built-of-bits d.push_pull connector_count push) ∙ built-same _ _ connector_count pushes in
    let third = sym (built-of-bits d.open_drain connector_count drain) ∙ built-same _ _ connector_count drains in
    λ i. record { sources = first i; push_pull = second i; open_drain = third i }

module _ (d : Connectors) (ok : well_formed d ≡ true) where
  words_are : (length d.sources ≡ connector_count) × (d.push_pull ≡ (from_each (each d)).push_pull) × (d.open_drain ≡ (from_each (each d)).open_drain)
  unfolding well_formed
  words_are =
      let long = eqb (length d.sources) connector_count in
      let push = eqb d.push_pull (from_each (each d)).push_pull in
      let drain = eqb d.open_drain (from_each (each d)).open_drain in
      let both = and_right long (push && drain) ok in (
        eqb-true _ _ (and_left long (push && drain) ok),
        eqb-true _ _ (and_left push drain both),
        eqb-true _ _ (and_right push drain both),
      )

  pub sources-long : length d.sources ≡ connector_count
  sources-long = words_are.0

  push-fits : d.push_pull < 2 ^ connector_count
  unfolding from_each
  push-fits = rw words_are.1 (built-lt (λ k. eqb (get_or (each d) k no_connector).kind push_pull_type) connector_count)

  drain-fits : d.open_drain < 2 ^ connector_count
  unfolding from_each
  drain-fits = rw words_are.2 (built-lt (λ k. eqb (get_or (each d) k no_connector).kind open_drain_type) connector_count)

  drain-bit : (k : ℕ) → k < connector_count → bit_at d.open_drain k ≡ eqb (kind_at d k) open_drain_type
  unfolding from_each
  drain-bit k h =
      ap (λ (w : ℕ). bit_at w k) words_are.2 ∙ bit-built (λ j. eqb (get_or (each d) j no_connector).kind open_drain_type) connector_count k h
      ∙ ap (λ (c : Connector). eqb c.kind open_drain_type) (each_at d k h)

  pub from_each_lem : from_each (each d) ≡ d
  from_each_lem =
      sym
      (from-unique d (each d) sources-long push-fits drain-fits (λ k h. ap (λ (c : Connector). c.source) (sym (each_at d k h)))
      (λ k h. sym (kind-push d k) ∙ ap (λ (c : Connector). eqb c.kind push_pull_type) (sym (each_at d k h)))
      (λ k h. drain-bit k h ∙ ap (λ (c : Connector). eqb c.kind open_drain_type) (sym (each_at d k h))))

-- they are known by their entries
pub each-unique : (d e : Connectors) → well_formed d ≡ true → well_formed e ≡ true → each d ≡ each e → d ≡ e
each-unique d e okd oke same = sym (from_each_lem d okd) ∙ ap from_each same ∙ from_each_lem e oke

-- ---- one changed

module _ (d : Connectors) (ok : well_formed d ≡ true) (k : ℕ) (within : k < connector_count) where
  -- the entries of all of them, one replaced
  abbrev replaced : Connector → List Connector
  replaced c = set (each d) k c

  replaced-same : (c : Connector) → get_or (replaced c) k no_connector ≡ c
  replaced-same c = get_or-set_same (each d) k c no_connector (omega (arith, length-each d))

  replaced-other : (c : Connector) (j : ℕ) → j < connector_count → (j ≡ k → ⊥) → get_or (replaced c) j no_connector ≡ connector_at d j
  replaced-other c j h ne = get_or-set_other (each d) k j c no_connector ne ∙ each_at d j h

  replaced-long : (c : Connector) → length (replaced c) ≡ connector_count
  replaced-long c = length-set (each d) k c ∙ length-each d

  replaced-known : (c : Connector) → bad_connector_type c.kind ≡ false → Known (replaced c)
  replaced-known c good j h = go (ℕ_discrete j k)
    where
      go : Dec (j ≡ k) → bad_connector_type (get_or (replaced c) j no_connector).kind ≡ false
      go (yes e) = rw (e, replaced-same c) good
      go (no ne) = rw (replaced-other c j h ne) (type-known d j)

  -- a bit of a word of types, and a source, after the change
  module _ (c : Connector) where
    bit-replaced : (w kind : ℕ) → ((j : ℕ) → j < connector_count → bit_at w j ≡ eqb (kind_at d j) kind)
        → (j : ℕ) → j < connector_count → bit_at (with_bit w k (eqb c.kind kind)) j ≡ eqb (get_or (replaced c) j no_connector).kind kind
    bit-replaced w kind bits j h = go (ℕ_discrete j k)
      where
        go : Dec (j ≡ k) → bit_at (with_bit w k (eqb c.kind kind)) j ≡ eqb (get_or (replaced c) j no_connector).kind kind
        go (yes e) = rw (e, replaced-same c) (bit-with-same w k (eqb c.kind kind))
        go (no ne) = rw (replaced-other c j h ne) (bit-with-other w k j (eqb c.kind kind) ne ∙ bits j h)

    source-replaced : (j : ℕ) → j < connector_count → get_or (set d.sources k c.source) j 0 ≡ (get_or (replaced c) j no_connector).source
    unfolding source_at
    source-replaced j h = go (ℕ_discrete j k)
      where
        go : Dec (j ≡ k) → get_or (set d.sources k c.source) j 0 ≡ (get_or (replaced c) j no_connector).source
        go (yes e) = rw (e, replaced-same c) (get_or-set_same d.sources k c.source 0 (omega (arith, sources-long d ok)))
        go (no ne) = rw (replaced-other c j h ne) (get_or-set_other d.sources k j c.source 0 ne)

    -- both words and the sources changed at k
    both-changed : Connectors
    both-changed =
        record {
          sources = set d.sources k c.source;
          push_pull = with_bit d.push_pull k (eqb c.kind push_pull_type);
          open_drain = with_bit d.open_drain k (eqb c.kind open_drain_type);
        }

    changed-from : both-changed ≡ from_each (replaced c)
    unfolding both-changed source_at
    changed-from =
        from-unique both-changed (replaced c) (length-set d.sources k c.source ∙ sources-long d ok)
        (with-lt d.push_pull connector_count k _ (push-fits d ok) within) (with-lt d.open_drain connector_count k _ (drain-fits d ok) within)
        source-replaced (bit-replaced d.push_pull push_pull_type (λ j h. sym (kind-push d j))) (bit-replaced d.open_drain open_drain_type (drain-bit d ok))

  -- another type
  kind-from : (v : ℕ) → with_kind d k v ≡ from_each (replaced (record { kind = v; source = source_at d k }))
  unfolding with_kind source_at both-changed
  kind-from v =
      (λ i. record {
        sources = sym (set-get_or d.sources k 0) i;
        push_pull = with_bit d.push_pull k (eqb v push_pull_type);
        open_drain = with_bit d.open_drain k (eqb v open_drain_type);
      })
      ∙ changed-from (record { kind = v; source = source_at d k })

  module _ (v : ℕ) (good : bad_connector_type v ≡ false) where
    pub each-kind : each (with_kind d k v) ≡ set (each d) k (record { kind = v; source = source_at d k })
    each-kind = let c : Connector = record { kind = v; source = source_at d k } in ap each (kind-from v) ∙ each_from (replaced c) (replaced-long c)
        (replaced-known c good)

    pub kind-formed : well_formed (with_kind d k v) ≡ true
    kind-formed = let c : Connector = record { kind = v; source = source_at d k } in rw (kind-from v) (from-formed (replaced c) (replaced-long c)
        (replaced-known c good))

  -- another source
  source-from : (s : ℕ) → with_source d k s ≡ from_each (replaced (record { kind = kind_at d k; source = s }))
  unfolding with_source source_at
  source-from s =
      let c : Connector = record { kind = kind_at d k; source = s } in
      from-unique (with_source d k s) (replaced c) (length-set d.sources k s ∙ sources-long d ok) (push-fits d ok) (drain-fits d ok) (source-replaced c)
      (λ j h. sym (kind-push d j) ∙ stays push_pull_type s j h) (λ j h. drain-bit d ok j h ∙ stays open_drain_type s j h)
    where
      stays : (kind s j : ℕ) → j < connector_count
          → eqb (kind_at d j) kind ≡ eqb (get_or (replaced (record { kind = kind_at d k; source = s })) j no_connector).kind kind
      stays kind s j h = go (ℕ_discrete j k)
        where
          go : Dec (j ≡ k) → eqb (kind_at d j) kind ≡ eqb (get_or (replaced (record { kind = kind_at d k; source = s })) j no_connector).kind kind
          go (yes e) = rw (e, replaced-same (record { kind = kind_at d k; source = s }))
          go (no ne) = rw (replaced-other (record { kind = kind_at d k; source = s }) j h ne)

  module _ (s : ℕ) where
    pub each-source : each (with_source d k s) ≡ set (each d) k (record { kind = kind_at d k; source = s })
    each-source =
        let c : Connector = record { kind = kind_at d k; source = s } in
        ap each (source-from s) ∙ each_from (replaced c) (replaced-long c) (replaced-known c (type-known d k))

    pub source-formed : well_formed (with_source d k s) ≡ true
    source-formed =
        let c : Connector = record { kind = kind_at d k; source = s } in rw (source-from s) (from-formed (replaced c) (replaced-long c)
        (replaced-known c (type-known d k)))
