-- Pairs of a message constant: the ways through `pair_at`, where a pair lies, and the fields that begin with one or with none.
-- Assumes nothing.
use Rattle.std.specs.Prelude.{◌≡◌, refl, Bool, true, false, ◌&&◌, List, ℕ, ◌-◌, ◌≤◌, ◌<◌, leb, length, None, Some, Option}
use Rattle.basis.specs.Kit.{sym, ap, ◌∙◌}
use Rattle.basis.proofs.Kit.{arith, not-true, not-false}
use mathlib.Core.Path.{subst, subst⁻¹}
use native.Mathlib.Decide.{dec_lt}
use Rattle.basis.proofs.Never.{never}
use Rattle.field.specs.Field.{field_at, field}
use Rattle.field.specs.Leaf.{span}
use Rattle.field.specs.Walk.{Walk, done, cut, step, walk}
use Rattle.field.proofs.FieldLaws.{Bounds, field-bounds, field-inside}
use Rattle.field.proofs.WalkLaws.{walk-done, walk-cut, walk_step}
use Rattle.field.proofs.Rest.{Rest}
use Rattle.request.specs.Table.{pair_field_tag, pair_url_tag}
use Rattle.request.specs.Constant.{is_pair_name}
use Rattle.pair.specs.declared.Pair.{Pair}
use Rattle.pair.specs.inner.Pair.{pair_with, pair_from, pair_at}
use Rattle.field.specs.declared.Field.{Field}

abbrev pub paired : ℕ → ℕ → ℕ → ℕ → ℕ → ℕ → Pair
paired t a e k b f = record { by = t; name = span a e; tag = k; constant = span b f }

-- ---- is_pair_name
pub pair_name_is : (t : ℕ) → (leb pair_field_tag t && leb t pair_url_tag) ≡ is_pair_name t
unfolding is_pair_name
pair_name_is t = refl

-- ---- pair_at
module _ (s : List ℕ) (at end : ℕ) (r : Option Field) (q : r ≡ field_at s at end) where
  pub pair-cut : r ≡ None → None ≡ pair_at s at end
  unfolding pair_at
  pair-cut g = rw (← q, g)

  module _ (here : Field) (g : r ≡ Some here) (n : Bool) (y : n ≡ is_pair_name here.tag) where
    pub pair-other : n ≡ false → None ≡ pair_at s at end
    unfolding pair_at
    pair-other h = rw (← q, g) (simp (pair_from, ← y, h))

    module _ (h : n ≡ true) (u : Option Field) (p : u ≡ field_at s here.to end) where
      pub pair-short : u ≡ None → None ≡ pair_at s at end
      unfolding pair_at
      pair-short x = rw (← q, g) (simp (pair_from, ← y, h, ← p, x))

      pub pair-whole : (it : Field) → u ≡ Some it → Some (paired here.tag here.from here.to it.tag it.from it.to) ≡ pair_at s at end
      unfolding pair_at
      pair-whole it x = rw (← q, g) (simp (pair_from, ← y, h, ← p, x))

pub ruleset pair_laws = (not-true, not-false, pair-cut, pair-other, pair-short, pair-whole, field-inside)

-- ---- the two fields that a pair is
pub record PairFields (s : List ℕ) (at end : ℕ) (p : Pair) : Type 0 where
  pub name : Some (field p.by p.name.from p.name.to) ≡ field_at s at end
  pub named : is_pair_name p.by ≡ true
  pub constant : Some (field p.tag p.constant.from p.constant.to) ≡ field_at s p.name.to end

pair-second : (s : List ℕ) (at end : ℕ) (p : Pair) (here : Field) → Some here ≡ field_at s at end → is_pair_name here.tag ≡ true
    → (f : Option Field) → f ≡ field_at s here.to end → pair_with here.tag here.from here.to f ≡ Some p → PairFields s at end p
pair-second s at end p here q y None x g = never cc
pair-second s at end p here q y (Some found) x g =
    let w : paired here.tag here.from here.to found.tag found.from found.to ≡ p = cc in
    subst (PairFields s at end) w (record { name = q; named = y; constant = x })

pair-open : (s : List ℕ) (at end : ℕ) (p : Pair) (f : Option Field) → f ≡ field_at s at end → pair_from s end f ≡ Some p → PairFields s at end p
pair-open s at end p None q g = never cc
pair-open s at end p (Some here) q g = go (is_pair_name here.tag) refl g
  where
    go : (b : Bool) → is_pair_name here.tag ≡ b → elim b [ true ↦ pair_with here.tag here.from here.to (field_at s here.to end) | false ↦ None ] ≡ Some p
        → PairFields s at end p
    go true y g = pair-second s at end p here q y (field_at s here.to end) refl g
    go false y g = never cc

module _ (s : List ℕ) (at end : ℕ) (r : Option Pair) (q : r ≡ pair_at s at end) (p : Pair) (g : r ≡ Some p) where
  pub pair-fields : PairFields s at end p
  unfolding pair_at
  pair-fields = pair-open s at end p (field_at s at end) refl (sym q ∙ g)

  name-bounds : Bounds at end p.name.from p.name.to
  name-bounds =
      field-bounds s at end (Some (field p.by p.name.from p.name.to)) pair-fields.name (field p.by p.name.from p.name.to) refl

  constant-bounds : Bounds p.name.to end p.constant.from p.constant.to
  constant-bounds =
      field-bounds s p.name.to end (Some (field p.tag p.constant.from p.constant.to)) pair-fields.constant
      (field p.tag p.constant.from p.constant.to) refl

  pub pair-name-ordered : p.name.from ≤ p.name.to
  pair-name-ordered = name-bounds.ordered

  pub pair-name-within : end ≤ length s → p.name.to ≤ length s
  pair-name-within h = omega (arith, name-bounds.inside)

  pub pair-constant-ordered : p.constant.from ≤ p.constant.to
  pair-constant-ordered = constant-bounds.ordered

  pub pair-constant-inside : p.constant.to ≤ end
  pair-constant-inside = constant-bounds.inside

  pub pair-constant-within : end ≤ length s → p.constant.to ≤ length s
  pair-constant-within h = omega (arith, constant-bounds.inside)

  pub pair-further : at < p.constant.to
  pair-further = omega (arith, name-bounds.starts, name-bounds.ordered, constant-bounds.starts, constant-bounds.ordered)

  pub pair-less : at < end → end - p.constant.to < end - at
  pair-less h = omega (arith, pair-further)

  pub pair-steps : walk s at end
      ≡ step p.by p.name.from p.name.to
      (step p.tag p.constant.from p.constant.to (walk s p.constant.to end))
  pair-steps =
      let h : at < end = omega (arith, pair-further, pair-constant-inside) in
      let k : p.name.to < end = omega (arith, constant-bounds.starts, constant-bounds.ordered, pair-constant-inside) in
      walk_step s at end h (Some (field p.by p.name.from p.name.to)) pair-fields.name (field p.by p.name.from p.name.to) refl
      ∙ ap (step p.by p.name.from p.name.to)
      (walk_step s p.name.to end k (Some (field p.tag p.constant.from p.constant.to)) pair-fields.constant
      (field p.tag p.constant.from p.constant.to) refl)

pub ruleset pair_places =
    (pair-name-ordered, pair-name-within, pair-constant-ordered, pair-constant-inside, pair-constant-within, pair-further, pair-less)

-- ---- fields, one at least, that begin with no pair
pub data Pairless : Walk → Type 0 where
  broken : Pairless cut
  unnamed : {t a e : ℕ} {w : Walk} → is_pair_name t ≡ false → Pairless (step t a e w)
  alone : {t a e : ℕ} → Pairless (step t a e done)
  cut_short : {t a e : ℕ} → Pairless (step t a e cut)

module _ (s : List ℕ) (at end : ℕ) (h : at < end) (here : Field) (q : Some here ≡ field_at s at end) where
  first_step : walk s at end ≡ step here.tag here.from here.to (walk s here.to end)
  first_step = walk_step s at end h (Some here) q here refl

  pairless-second : (f : Option Field) → f ≡ field_at s here.to end → pair_with here.tag here.from here.to f ≡ None → Pairless (walk s at end)
  pairless-second (Some it) x g = never cc
  pairless-second None x g = elim (dec_lt here.to end) [
    | yes k ↦ subst⁻¹ Pairless (first_step ∙ ap (step here.tag here.from here.to) (walk-cut s here.to end k None x refl)) cut_short
    | no k ↦ subst⁻¹ Pairless (first_step ∙ ap (step here.tag here.from here.to) (walk-done s here.to end (omega arith))) alone
  ]

pairless-from : (s : List ℕ) (at end : ℕ) → at < end → (f : Option Field) → f ≡ field_at s at end → pair_from s end f ≡ None
    → Pairless (walk s at end)
pairless-from s at end h None q g = subst⁻¹ Pairless (walk-cut s at end h None q refl) broken
pairless-from s at end h (Some here) q g = go (is_pair_name here.tag) refl g
  where
    go : (b : Bool) → is_pair_name here.tag ≡ b
        → ◌≡◌ {A = Option Pair} (elim b [ true ↦ pair_with here.tag here.from here.to (field_at s here.to end) | false ↦ None ]) None
        → Pairless (walk s at end)
    go true y g = pairless-second s at end h here q (field_at s here.to end) refl g
    go false y g = subst⁻¹ Pairless (first_step s at end h here q) (unnamed y)

pub pair-none : (s : List ℕ) (at end : ℕ) → at < end → (r : Option Pair) → r ≡ pair_at s at end → r ≡ None → Pairless (walk s at end)
unfolding pair_at
pair-none s at end h r q g = pairless-from s at end h (field_at s at end) refl (sym q ∙ g)

-- ---- a loop over pairs: the answer v is what F gives of the fields that are left
module _ {A : Type 0} (v : A) (F : Walk → A) (s : List ℕ) (to i : ℕ) (k : Rest v F s to i) (r : Option Pair) (q : r ≡ pair_at s i to) where
  pub rest-pairless : i < to → r ≡ None → (x : A) → ((w : Walk) → Pairless w → F w ≡ x) → v ≡ x
  rest-pairless h g x f = k.rest ∙ f (walk s i to) (pair-none s i to h r q g)

  module _ (p : Pair) (g : r ≡ Some p) where
    pub rest-pair : v
        ≡ F (step p.by p.name.from p.name.to
        (step p.tag p.constant.from p.constant.to (walk s p.constant.to to)))
    rest-pair = k.rest ∙ ap F (pair-steps s i to r q p g)

    pub rest-pair-next : (G : Walk → A)
        → F (step p.by p.name.from p.name.to
        (step p.tag p.constant.from p.constant.to (walk s p.constant.to to)))
        ≡ G (walk s p.constant.to to)
        → Rest v G s to p.constant.to
    rest-pair-next G f =
        record { reads = k.reads; within = pair-constant-inside s i to r q p g; inside = k.inside; rest = rest-pair ∙ f }
