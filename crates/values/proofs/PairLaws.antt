-- The pairs of a message: what a pair is written on, and the ways through `target_of`, `put_pair` and `put_pairs`.
--
--     on_target g f == what a pair comes to on the target g, f being what its constant comes to on a field
--       Aims s g <-> the type path of the field, where the target is one, is a place of the sheet
--
-- Assumes nothing.
use Rattle.std.specs.Prelude.{◌≡◌, refl, Bool, true, false, List, ℕ, zero, suc, ◌+◌, ◌-◌, ◌*◌, ◌≤◌, ◌<◌, eqb, length, Option, Err, None, Some, Ok, Result}
use Rattle.basis.specs.Kit.{sym, ap, ◌∙◌}
use Rattle.basis.proofs.Kit.{arith, eq-eqb, ne_eqb}
use Rattle.basis.proofs.Never.{never}
use mathlib.Core.Path.{subst}
use Rattle.basis.specs.First.{told}
use Rattle.reply.specs.declared.Refusal.{Refusal}
use Rattle.reply.specs.declared.Refusal.TheVariants.{UnknownFieldName}
use Rattle.field.specs.Leaf.{span, text, Lies}
use Rattle.field.specs.Walk.{Walk, done, cut, step, walk}
use Rattle.field.proofs.FieldLaws.{field-bounds}
use Rattle.field.proofs.Rest.{rest_end}
use Rattle.sheet.specs.declared.declaration.Declaration.{Declaration}
use Rattle.sheet.specs.declared.declaration.Shape.{Shape}
use Rattle.scope.specs.declared.lookup.LookupScope.{LookupScope}
use Rattle.scope.specs.inner.Answers.{InSheet, declared}
use Rattle.request.specs.declared.constant.Constant.{Constant}
use Rattle.request.specs.declared.constant.Constant.TheVariants.{Bool as BoolOf, Integer, Float as FloatOf, NotANumber}
use Rattle.request.specs.declared.constant.Constant.TheVariants.{Text, Ident, Message as MessageOf, List as ListOf}
use Rattle.request.specs.Table.{pair_field_tag, pair_extension_tag}
use Rattle.request.specs.Constant.{constant_of, is_pair_name}
use Rattle.request.specs.Tree.{PairName, unnamed, by_field, by_extension, by_url, pair_name_of, none, ConstantReader, pairs_in, grown, if_held}
use Rattle.request.specs.Tree.{constant_in}
use Rattle.pair.specs.declared.Pair.{Pair}
use Rattle.pair.specs.inner.Pair.{pair_at}
use Rattle.pair.proofs.PairLaws.{Pairless, broken, alone, cut_short, unnamed as misnamed, rest-pairless, rest-pair}
use Rattle.pair.proofs.PairLaws.{pair-fields, pair_places, pair-constant-inside}
use Rattle.records.specs.Records.{nil}
use Rattle.records.specs.Made.{Made, made, wrong, after, both}
use Rattle.records.specs.inner.Emits.{bytes_most, wrote_of, Emits, Roomy}
use Rattle.records.proofs.EmitsLaws.{wrote-tells, refuses, writes-none}
use Rattle.lookups.specs.Lookups.{Lookups, field_named}
use Rattle.lookups.proofs.LookupLaws.{field-named-lies}
use Rattle.values.specs.Values.{on, within, Asked, field, passed, refused, asked, on_asked, records}
use Rattle.values.specs.inner.Writers.{held_at, held_target, target_of, value_made, pairs_made, pair_made}
use Rattle.values.proofs.FrontLaws.{Front, front-start, front_length, front-after, front-whole, front-room, front_less}
use Rattle.values.proofs.FrontLaws.{front-refused, front-next}
use Rattle.values.proofs.ValueLaws.{constant-first}
use Rattle.field.specs.Field.{field as field_of}

-- ---- target_of
module _ (s r : List ℕ) (c : LookupScope) (d : ℕ) (x : Pair) (u : Option Constant)
    (q : u ≡ held_at d r x.tag x.constant.from x.constant.to) where
  target-held : held_target s r c x u ≡ target_of s r c d x
  unfolding target_of
  target-held = ap (held_target s r c x) q

  pub target_none : u ≡ None → Ok None ≡ target_of s r c d x
  target_none g = sym (ap (held_target s r c x) g) ∙ target-held

  module _ (k : Constant) (g : u ≡ Some k) where
    target-with : (b : Bool) → eqb x.by pair_field_tag ≡ b
        → elim b [
          | true ↦ told (Err UnknownFieldName) (λ d. Ok (Some d.shape)) (field_named s (text r x.name) c)
          | false ↦ Ok None
        ]
        ≡ target_of s r c d x
    target-with b e = rw (← e) (sym (ap (held_target s r c x) g) ∙ target-held)

    pub target-other : (x.by ≡ pair_field_tag → ⊥) → Ok None ≡ target_of s r c d x
    target-other o = target-with false (ne_eqb x.by pair_field_tag o)

    module _ (o : x.by ≡ pair_field_tag) (v : Option Declaration) (e : v ≡ declared (field_named s (text r x.name) c)) where
      pub target-unknown : v ≡ None → Err UnknownFieldName ≡ target_of s r c d x
      target-unknown z = go (field_named s (text r x.name) c) e ∙ target-with true (eq-eqb x.by pair_field_tag o)
        where
          go : (y : Option Declaration) → v ≡ declared y
              → Err UnknownFieldName ≡ told (Err UnknownFieldName) (λ (d : Declaration). Ok (Some d.shape)) y
          go None e = refl
          go (Some f) e = never cc

      pub target_is : (f : Declaration) → v ≡ Some f → Ok (Some f.shape) ≡ target_of s r c d x
      target_is f z = go (field_named s (text r x.name) c) e ∙ target-with true (eq-eqb x.by pair_field_tag o)
        where
          go : (y : Option Declaration) → v ≡ declared y
              → Ok (Some f.shape) ≡ told (Err UnknownFieldName) (λ (d : Declaration). Ok (Some d.shape)) y
          go None e = never cc
          go (Some f') e = let y : f ≡ f' = cc in rw y

pub ruleset target_laws = (target_none, target-other, target-unknown, target_is)

-- ---- what a pair comes to, by its target
abbrev on_target : Result (Option Shape) Refusal → (Shape → Made Refusal) → Made Refusal
on_target (Ok (Some h)) f = f h
on_target (Ok None) f = made nil
on_target (Err w) f = wrong w

asked-alone : (a : Asked) (f : Shape → Made Refusal) → both (on_asked a f) (made nil) ≡ on_asked a λ h. both (f h) (made nil)
asked-alone (field h) f = refl
asked-alone passed f = refl
asked-alone (refused w) f = refl

module _ (L : Lookups) (s r : List ℕ) (c : LookupScope) where
  -- a constant of a name is that constant on what the name asks for
  grown-asked : (inner : ConstantReader) (n : PairName) (k : Constant)
      → records L s r (within c) (grown inner r n none k)
      ≡ on_asked (asked s r (within c) n) λ h. records L s r (on h) (grown inner r unnamed none k)
  grown-asked inner n (BoolOf b) = asked-alone (asked s r (within c) n) _
  grown-asked inner n (Integer m x) = asked-alone (asked s r (within c) n) _
  grown-asked inner n (FloatOf x) = asked-alone (asked s r (within c) n) _
  grown-asked inner n (NotANumber b) = asked-alone (asked s r (within c) n) _
  grown-asked inner n (Text p) = asked-alone (asked s r (within c) n) _
  grown-asked inner n (Ident p) = asked-alone (asked s r (within c) n) _
  grown-asked inner n (MessageOf p) = asked-alone (asked s r (within c) n) _
  grown-asked inner n (ListOf p) = asked-alone (asked s r (within c) n) _

  asked-target : (x : Pair) (k : Constant) (f : Shape → Made Refusal)
      → on_asked (asked s r (within c) (pair_name_of x.by x.name)) f ≡ on_target (held_target s r c x (Some k)) f
  asked-target x k f = go (eqb x.by pair_field_tag) (eqb x.by pair_extension_tag) (field_named s (text r x.name) c) refl
    where
      go : (b b' : Bool) (o : Option Declaration) → field_named s (text r x.name) c ≡ o
          → on_asked (asked s r (within c) (elim b [
            | true ↦ by_field x.name
            | false ↦ elim b' [ true ↦ by_extension x.name | false ↦ by_url x.name ]
          ])) f
          ≡ on_target (elim b [
            | true ↦ told (Err UnknownFieldName) (λ d. Ok (Some d.shape)) (field_named s (text r x.name) c)
            | false ↦ Ok None
          ]) f
      go true b' None e = rw e
      go true b' (Some d) e = rw e
      go false true o e = refl
      go false false o e = refl

  module _ (d : ℕ) (x : Pair) where
    pair-target : pair_made L s r c d x
        ≡ on_target (target_of s r c d x) λ h. value_made L s r h d x.tag x.constant.from x.constant.to
    unfolding pair_made target_of held_at value_made
    pair-target = go d
      where
        held : (d : ℕ) (u : Option Constant)
            → records L s r (within c) (if_held (constant_in d r) r (pair_name_of x.by x.name) none u)
            ≡ on_target (held_target s r c x u) λ h. records L s r (on h) (if_held (constant_in d r) r unnamed none u)
        held d None = refl
        held d (Some k) = grown-asked (constant_in d r) (pair_name_of x.by x.name) k ∙ asked-target x k _

        go : (d : ℕ)
            → records L s r (within c) (constant_in d r (pair_name_of x.by x.name) x.tag x.constant.from x.constant.to none)
            ≡ on_target (held_target s r c x (held_at d r x.tag x.constant.from x.constant.to))
            λ h. records L s r (on h) (constant_in d r unnamed x.tag x.constant.from x.constant.to none)
        go zero = refl
        go (suc d) = held d (constant_of r x.tag x.constant.from x.constant.to)

    -- ---- put_pair
    module _ (v : Result (Option Shape) Refusal) (q : v ≡ target_of s r c d x) where
      pair-on : pair_made L s r c d x ≡ on_target v λ h. value_made L s r h d x.tag x.constant.from x.constant.to
      pair-on = pair-target ∙ rw (← q)

      pub pair-passed : v ≡ Ok None → (n : ℕ) (l : List ℕ) (at : ℕ) → Emits wrote_of (pair_made L s r c d x) n l at l (Ok at)
      pair-passed g n l at = writes-none wrote-tells (pair-on ∙ rw g) refl

      pub pair-unknown : (w : Refusal) → v ≡ Err w → (n : ℕ) (l : List ℕ) (at : ℕ)
          → Emits wrote_of (pair_made L s r c d x) n l at l (Err w)
      pair-unknown w g n l at = refuses wrote-tells w (pair-on ∙ rw g) refl

      pub pair-value : (h : Shape) → v ≡ Ok (Some h) → (n : ℕ) (l : List ℕ) (at : ℕ) (l' : List ℕ) (y : Result ℕ Refusal)
          → Emits wrote_of (value_made L s r h d x.tag x.constant.from x.constant.to) n l at l' y
          → Emits wrote_of (pair_made L s r c d x) n l at l' y
      pair-value h g n l at l' y u =
          subst (λ (m : Made Refusal). Emits wrote_of m n l at l' y) (sym (pair-on ∙ rw g)) u

-- the field that is named is one of the sheet
abbrev Aims : List ℕ → Result (Option Shape) Refusal → Type 0
Aims s (Ok (Some h)) = Lies h.path s
Aims s (Ok None) = Unit {0}
Aims s (Err w) = Unit {0}

module _ (s r : List ℕ) (c : LookupScope) (l : InSheet s c) (x : Pair) where
  held-aims : (u : Option Constant) → Aims s (held_target s r c x u)
  held-aims None = tt
  held-aims (Some k) = go (eqb x.by pair_field_tag) (field_named s (text r x.name) c) refl
    where
      go : (b : Bool) (o : Option Declaration) → field_named s (text r x.name) c ≡ o
          → Aims s (elim b [
            | true ↦ told (Err UnknownFieldName) (λ d. Ok (Some d.shape)) (field_named s (text r x.name) c)
            | false ↦ Ok None
          ])
      go false o e = tt
      go true None e = rw e tt
      go true (Some f) e = rw e (field-named-lies s c l (text r x.name) f e)

  module _ (d : ℕ) (v : Result (Option Shape) Refusal) (q : v ≡ target_of s r c d x) (h : Shape) (g : v ≡ Ok (Some h)) where
    target-lies : Lies h.path s
    unfolding target_of
    target-lies = subst (Aims s) (sym q ∙ g) (held-aims (held_at d r x.tag x.constant.from x.constant.to))

    pub target-ordered : h.path.from ≤ h.path.to
    target-ordered = target-lies.0

    pub target-within : h.path.to ≤ length s
    target-within = target-lies.1

pub ruleset pair_laws = (pair-passed, pair-unknown, pair-value, target-ordered, target-within)

-- ---- put_pairs
pair_size : (r : List ℕ) (i to : ℕ) (x : Option Pair) → x ≡ pair_at r i to → (z : Pair) → x ≡ Some z
    → i + 6 + (z.constant.to - z.constant.from) ≤ z.constant.to
pair_size r i to x q z g =
    let f = pair-fields r i to x q z g in
    let a = field-bounds r i to (Some (field_of z.by z.name.from z.name.to)) f.name
    (field_of z.by z.name.from z.name.to) refl in
    let b = field-bounds r z.name.to to (Some (field_of z.tag z.constant.from z.constant.to)) f.constant
    (field_of z.tag z.constant.from z.constant.to) refl in
    omega (arith, a.starts, a.ordered, b.starts, b.ordered)

abbrev pub pairs_of : Lookups → (s r : List ℕ) → LookupScope → (left : ℕ) → Walk → Made Refusal
pairs_of L s r c d w = records L s r (within c) (pairs_in (constant_in d r) w)

module _ (inner : ConstantReader) (t a e k b f : ℕ) (w : Walk) where
  pairs-in : is_pair_name t ≡ true → pairs_in inner (step t a e (step k b f w)) ≡ inner (pair_name_of t (span a e)) k b f (pairs_in inner w)
  pairs-in h = ap (λ (y : Bool). elim y [ true ↦ inner (pair_name_of t (span a e)) k b f (pairs_in inner w) | false ↦ none ]) h

  pairs-out : is_pair_name t ≡ false → pairs_in inner (step t a e (step k b f w)) ≡ none
  pairs-out h = ap (λ (y : Bool). elim y [ true ↦ inner (pair_name_of t (span a e)) k b f (pairs_in inner w) | false ↦ none ]) h

module _ (L : Lookups) (s r : List ℕ) (c : LookupScope) (d from to : ℕ) where
  pairs-step : (x : Pair) → is_pair_name x.by ≡ true → (w : Walk)
      → pairs_of L s r c d (step x.by x.name.from x.name.to (step x.tag x.constant.from x.constant.to w))
      ≡ both (pair_made L s r c d x) (pairs_of L s r c d w)
  unfolding pair_made
  pairs-step x h w =
      ap (records L s r (within c))
      (pairs-in (constant_in d r) x.by x.name.from x.name.to x.tag x.constant.from x.constant.to w h)
      ∙ constant-first L s r (within c) (pair_name_of x.by x.name) (pairs_in (constant_in d r) w) d x.tag x.constant.from
      x.constant.to

  pairless-none : (w : Walk) → Pairless w → pairs_of L s r c d w ≡ made nil
  pairless-none done x' = elim x' [ ]
  pairless-none cut broken = refl
  pairless-none (step t a e done) alone = refl
  pairless-none (step t a e cut) cut_short = refl
  pairless-none (step t a e done) (misnamed y) = refl
  pairless-none (step t a e cut) (misnamed y) = refl
  pairless-none (step t a e (step k b f w)) (misnamed y) =
      ap (records L s r (within c)) (pairs-out (constant_in d r) t a e k b f w y)

  pub pairs_start : from ≤ to → to ≤ length r → (l : List ℕ) (at : ℕ)
      → Front (pairs_made L s r c d from to) (pairs_of L s r c d) r from to from l l at at
  unfolding pairs_made
  pairs_start = front-start (pairs_of L s r c d) r from to

  module _ (v : Made Refusal) (i : ℕ) (l m : List ℕ) (at p : ℕ) (k : Front v (pairs_of L s r c d) r from to i l m at p) where
    pub pairs_end : to ≤ i → Emits wrote_of v (bytes_most (to - from)) l at m (Ok p)
    pairs_end j =
        front-whole v (pairs_of L s r c d) r from to i l m at p k
        (rest_end v (λ w. after k.front (pairs_of L s r c d w)) r to i k.rest j)

    module _ (x : Option Pair) (q : x ≡ pair_at r i to) where
      pub pairs-none : i < to → x ≡ None → Emits wrote_of v (bytes_most (to - from)) l at m (Ok p)
      pairs-none j g =
          front-whole v (pairs_of L s r c d) r from to i l m at p k
          (rest-pairless v (λ w. after k.front (pairs_of L s r c d w)) r to i k.rest x q j g (after k.front (made nil))
          λ w o. ap (after k.front) (pairless-none w o))

      module _ (z : Pair) (g : x ≡ Some z) where
        pair-header : i + 3 + (z.constant.to - z.constant.from) ≤ z.constant.to
        pair-header = let h = pair_size r i to x q z g in omega arith

        pub pairs-room : Roomy at (to - from) r → Roomy p (3 + (z.constant.to - z.constant.from)) r
        pairs-room =
            front-room v (pairs_of L s r c d) r from to i l m at p k (z.constant.to - z.constant.from) z.constant.to pair-header
            (pair-constant-inside r i to x q z g)

        pub pairs-falls : (n : ℕ) → 4 * (to - from) ≡ n → 4 * (z.constant.to - z.constant.from) + 4 < n
        pairs-falls n o =
            let b = front_less v (pairs_of L s r c d) r from to i l m at p k (z.constant.to - z.constant.from) z.constant.to
            pair-header (pair-constant-inside r i to x q z g) in
            omega arith

        module _ (m' : List ℕ) (y : Result ℕ Refusal)
            (u : Emits wrote_of (pair_made L s r c d z) (bytes_most (3 + (z.constant.to - z.constant.from))) m p m' y) where
          pairs_first : v ≡ after k.front (both (pair_made L s r c d z) (pairs_of L s r c d (walk r z.constant.to to)))
          pairs_first =
              rest-pair v (λ w. after k.front (pairs_of L s r c d w)) r to i k.rest x q z g
              ∙ ap (after k.front) (pairs-step z (pair-fields r i to x q z g).named (walk r z.constant.to to))

          pub pairs-refused : (w : Refusal) → y ≡ Err w → Emits wrote_of v (bytes_most (to - from)) l at m' (Err w)
          pairs-refused =
              front-refused v (pairs_of L s r c d) r from to i l m at p k (z.constant.to - z.constant.from) z.constant.to pair-header
              (pair-constant-inside r i to x q z g) (pair_made L s r c d z) m' y u pairs_first

          pub pairs_next : (n : ℕ) → y ≡ Ok n → Front v (pairs_of L s r c d) r from to z.constant.to l m' at n
          pairs_next =
              front-next v (pairs_of L s r c d) r from to i l m at p k (z.constant.to - z.constant.from) z.constant.to pair-header
              (pair-constant-inside r i to x q z g) (pair_made L s r c d z) m' y u pairs_first

pub ruleset pairs_laws = (
  pairs_start,
  front_length,
  front-after,
  pairs_end,
  pairs-none,
  pairs-room,
  pairs-falls,
  pairs-refused,
  pairs_next,
  pair_places,
)
