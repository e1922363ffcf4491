-- The loops over a text: what is known at the head of each, and the laws of each way through.
-- Assumes nothing.
use Rattle.std.specs.Prelude.{◌≡◌, refl, Bool, true, false, List, [], ◌∷◌, ◌++◌, ℕ, suc, ◌+◌, ◌-◌, ◌≤◌, ◌<◌, length, get_or, take, drop}
use Rattle.basis.specs.Kit.{sym, ap, ◌∙◌}
use Rattle.basis.proofs.Kit.{arith, add-one, not-true, not-false}
use lib.ListN.{drop_of_length-le, take-append-drop}
use lib.Seq.{drop-cons, drop-length, take-take, take-length, length-take-le}
use Rattle.ident.specs.Ident.{is_ident}
use Rattle.path.specs.Path.{dot, split, components, spell, all_ident, parent}
use Rattle.path.specs.inner.Places.{until_dot}
use Rattle.path.specs.inner.Last.{LastStarts}
use Rattle.path.proofs.Pieces.{text, until-other, headed}
use Rattle.path.proofs.PathLaws.{spell-split, components-nil, components-split, components-snoc}
use Rattle.path.proofs.PathLaws.{parent-dotless, parent-snoc}
use Rattle.path.proofs.PathLaws.{last-dotless, last-append}
use Rattle.path.proofs.Names.{names_at, names-past, end_after, end-within, next-less, piece_is, pieces-last, pieces_more}

-- ---- component_end: no dot from `at` up to i
pub record Ending (s : List ℕ) (at i : ℕ) : Type 0 where
  pub within : i ≤ length s
  pub rest : at + length (until_dot (drop at s)) ≡ i + length (until_dot (drop i s))

pub ending-start : (s : List ℕ) (at : ℕ) → at ≤ length s → Ending s at at
ending-start s at h = record { within = h; rest = refl }

module _ (s : List ℕ) (at i : ℕ) (k : Ending s at i) where
  pub ending-over : length s ≤ i → length s ≡ at + length (until_dot (drop at s))
  unfolding until_dot
  ending-over h = rw (k.rest, drop_of_length-le s h) (omega arith)

  pub ending-dot : i < length s → get_or s i 0 ≡ dot → i ≡ at + length (until_dot (drop at s))
  unfolding until_dot
  ending-dot h e = rw (k.rest, drop-cons s i 0 h, e) (omega arith)

  pub ending-next : i < length s → (get_or s i 0 ≡ dot → ⊥) → Ending s at (i + 1)
  ending-next h n =
      let one : until_dot (drop i s) ≡ get_or s i 0 ∷ until_dot (drop (i + 1) s) =
      rw (add-one, drop-cons s i 0) (until-other (get_or s i 0) (drop (suc i) s) n) in
      record { within = omega arith; rest = k.rest ∙ rw one (omega arith) }

pub ruleset ending_laws = (ending-start, ending-over, ending-dot, ending-next)

-- ---- all_ident: the components from `from` up to `at` are identifiers
pub record Checked (s : List ℕ) (from at : ℕ) : Type 0 where
  pub within : at ≤ length s
  pub rest : all_ident (split (drop from s)) ≡ all_ident (split (drop at s))

pub checked-start : (s : List ℕ) (from : ℕ) → from ≤ length s → Checked s from from
checked-start s from h = record { within = h; rest = refl }

module _ (s : List ℕ) (from at : ℕ) (k : Checked s from at) (e : ℕ) (q : e ≡ at + length (until_dot (drop at s))) where
  module _ (r : Bool) (p : r ≡ is_ident (take (e - at) (drop at s))) where
    pub checked-no : r ≡ false → false ≡ all_ident (split (drop from s))
    unfolding all_ident
    checked-no z = rw (k.rest, (headed (text (drop at s))).is, ← piece_is s at e q, ← p, z)

    pub checked-last : r ≡ true → length s ≤ e → true ≡ all_ident (split (drop from s))
    unfolding all_ident
    checked-last z l = rw (k.rest, pieces-last s at e q k.within l, ← p, z)

    pub checked-next : r ≡ true → e < length s → Checked s from (e + 1)
    unfolding all_ident
    checked-next z l = record { within = omega arith; rest = rw (k.rest, pieces_more s at e q l, ← p, z) }

pub ruleset checked_laws = (not-true, not-false, end_after, end-within, next-less, checked-start, checked-no, checked-last, checked-next)

-- ---- count: n components end before `at`
pub record Counted (s : List ℕ) (n at : ℕ) : Type 0 where
  pub within : at ≤ length s
  pub few : n ≤ at
  pub rest : length (components s) ≡ n + length (split (drop at s))

pub count-empty : (s : List ℕ) → length s ≡ 0 → 0 ≡ length (components s)
count-empty s h = rw (components-nil s h)

pub counted_start : (s : List ℕ) → (length s ≡ 0 → ⊥) → Counted s 0 0
counted_start s h = record { within = omega arith; few = omega arith; rest = rw (components-split s h) (omega arith) }

module _ (s : List ℕ) (n at : ℕ) (k : Counted s n at) (e : ℕ) (q : e ≡ at + length (until_dot (drop at s))) where
  pub counted-last : length s ≤ e → n + 1 ≡ length (components s)
  counted-last l = rw (k.rest, pieces-last s at e q k.within l)

  pub counted_next : e < length s → Counted s (n + 1) (e + 1)
  counted_next l =
      let r : length (components s) ≡ n + 1 + length (split (drop (e + 1) s)) =
      rw (k.rest, pieces_more s at e q l) (omega arith) in
      record { within = omega arith; few = omega arith; rest = r }

pub ruleset counted_laws = (end_after, end-within, next-less, count-empty, counted_start, counted-last, counted_next)

-- ---- last_at: no dot from i on
pub record Tail (s : List ℕ) (i : ℕ) : Type 0 where
  pub within : i ≤ length s
  pub clear : until_dot (drop i s) ≡ drop i s

pub tail-start : (s : List ℕ) → Tail s (length s)
unfolding until_dot
tail-start s = record { within = omega arith; clear = rw (drop-length s) }

module _ (s : List ℕ) (i : ℕ) (k : Tail s i) where
  pub tail_none : i ≤ 0 → LastStarts s 0
  tail_none h =
      let z : i ≡ 0 = omega arith in
      let clear : until_dot s ≡ s = rw z at k.clear in
      record {
        within = omega arith;
        name = sym (last-dotless s clear);
        before = names-past [] 1 (omega arith) ∙ sym (parent-dotless s clear);
      }

  module _ (h : 0 < i) where
    tail-cons : drop (i - 1) s ≡ get_or s (i - 1) 0 ∷ drop i s
    tail-cons = let one : suc (i - 1) ≡ i = omega arith in drop-cons s (i - 1) 0 (omega (arith, k.within)) ∙ rw one

    pub tail-next : (get_or s (i - 1) 0 ≡ dot → ⊥) → Tail s (i - 1)
    tail-next n =
        let clear = until-other (get_or s (i - 1) 0) (drop i s) n ∙ ap (λ (t : List ℕ). get_or s (i - 1) 0 ∷ t) k.clear in
        record { within = omega (arith, k.within); clear = rw tail-cons clear }

    pub tail-dot : get_or s (i - 1) 0 ≡ dot → LastStarts s i
    tail-dot e =
        let cut : s ≡ take (i - 1) s ++ dot ∷ drop i s = sym (take-append-drop (i - 1) s) ∙ rw (tail-cons, e) in
        let names : components s ≡ split (take (i - 1) s) ++ (drop i s ∷ []) =
        ap components cut ∙ components-snoc (take (i - 1) s) (drop i s) k.clear in
        let first : 1 - i ≡ 0 = omega arith in
        record {
          within = k.within;
          name = rw (names, last-append);
          before = rw (first, names, parent-snoc) (names_at (take (i - 1) s) 0 (omega arith));
        }

pub ruleset tail_laws = (tail-start, tail_none, tail-next, tail-dot)

-- ---- a front of the text, as a slice
pub front_length : (s : List ℕ) (r : ℕ) → r ≤ length s → r ≡ length (take r s)
front_length s r h = sym (length-take-le r s h)

-- ---- parent_end: the parent of the first `end` bytes ends at the dot before their last component
module _ (s : List ℕ) (end r : ℕ) (k : LastStarts (take end s) r) where
  pub parent-none : r ≡ 0 → take 0 s ≡ spell (parent (components (take end s)))
  unfolding spell
  parent-none z = ap spell (sym (names-past [] 1 (omega arith)) ∙ (rw z at k.before))

  module _ (w : end ≤ length s) where
    pub parent-within : r - 1 ≤ end
    parent-within = omega (arith, k.within, length-take-le end s w)

    pub parent-dot : (r ≡ 0 → ⊥) → take (r - 1) s ≡ spell (parent (components (take end s)))
    parent-dot n =
        let first : 1 - r ≡ 0 = omega (arith, n) in
        let names = rw (first, take-take (r - 1) end s parent-within, names_at (take (r - 1) s) 0 (omega arith)) at k.before in
        sym (spell-split (take (r - 1) s)) ∙ ap spell names

pub ruleset parent_end_laws = (front_length, parent-none, parent-within, parent-dot)

-- ---- parent_of: the parent of the first `length s` bytes
pub parent-whole : (s : List ℕ) (r : ℕ) → take r s ≡ spell (parent (components (take (length s) s)))
    → take r s ≡ spell (parent (components s))
parent-whole s r p = p ∙ rw (take-length s)

pub ruleset parent_laws = (front_length, parent-whole)

-- ---- before: the text up to the byte before a place
module _ (s : List ℕ) (at : ℕ) where
  pub before-start : at ≡ 0 → take 0 s ≡ take (at - 1) s
  before-start z = rw z

  pub before-length : at ≤ suc (length s) → at - 1 ≡ length (take (at - 1) s)
  before-length h = front_length s (at - 1) (omega arith)

pub ruleset before_laws = (before-start, before-length)
