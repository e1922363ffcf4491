-- The same bytes in two requests, and the places in them that correspond.
--
--         Twin r r' <-> some bytes of r are, in the same order, bytes of r': `size` of them, from `first` on in r, from `other` on in r'
--        Here w x y <-> the place x of r is the place y of r', in the bytes that w says or at their end
--   SameSpan w p p' <-> the span p of r is the span p' of r'
--
-- Assumes nothing.
use Rattle.std.specs.Prelude.{◌≡◌, refl, List, ℕ, zero, suc, ◌+◌, ◌-◌, ◌≤◌, ◌<◌, eqb, ltb, length, get_or, drop}
use Rattle.basis.specs.Kit.{sym, ap, ◌∙◌}
use Rattle.basis.proofs.Kit.{arith}
use lib.Seq.{get_or-take, get_or-drop, ext_get_or}
use Rattle.octets.specs.Octets.{part, big_at}
use Rattle.octets.proofs.Parts.{part_length}
use Rattle.field.specs.declared.Span.{Span}
use Rattle.field.specs.Leaf.{text}
use Rattle.alone.proofs.Tests.{ltb-moved, eqb-moved}

pub record Twin (r r' : List ℕ) : Type 0 where
  pub first : ℕ
  pub other : ℕ
  pub size : ℕ
  pub inside : first + size ≤ length r
  pub inside' : other + size ≤ length r'
  pub byte : (i : ℕ) → i < size → get_or r (first + i) 0 ≡ get_or r' (other + i) 0

pub record Here {r r' : List ℕ} (w : Twin r r') (x y : ℕ) : Type 0 where
  pub moved : x + w.other ≡ y + w.first
  pub begun : w.first ≤ x
  pub ended : x ≤ w.first + w.size

pub record SameSpan {r r' : List ℕ} (w : Twin r r') (p p' : Span) : Type 0 where
  pub from : Here w p.from p'.from
  pub to : Here w p.to p'.to

module _ {r r' : List ℕ} (w : Twin r r') where
  abbrev last : ℕ
  last = w.first + w.size

  module _ {x y : ℕ} (h : Here w x y) where
    pub here-byte : x < last → get_or r x 0 ≡ get_or r' y 0
    here-byte k =
        let i : ℕ = x - w.first in
        let p : x ≡ w.first + i = omega (arith, h.begun) in
        let q : w.other + i ≡ y = omega (arith, h.begun, h.moved) in
        ap (λ (n : ℕ). get_or r n 0) p ∙ w.byte i (omega (arith, h.begun)) ∙ ap (λ (n : ℕ). get_or r' n 0) q

    pub here-add : (k : ℕ) → x + k ≤ last → Here w (x + k) (y + k)
    here-add k l = record { moved = omega (arith, h.moved); begun = omega (arith, h.begun); ended = l }

  pub here-big : {x y : ℕ} → Here w x y → (k : ℕ) → x + k ≤ last → big_at k r x ≡ big_at k r' y
  unfolding big_at
  here-big h zero l = refl
  here-big {x} {y} h (suc k) l =
      let p : big_at k r x ≡ big_at k r' y = here-big h k (omega arith) in
      let q : get_or r (x + k) 0 ≡ get_or r' (y + k) 0 = here-byte (here-add h k (omega arith)) (omega arith) in
      rw (p, q)

  module _ {x x' y y' : ℕ} (h : Here w x y) (k : Here w x' y') where
    pub here-less : ltb x x' ≡ ltb y y'
    here-less = ltb-moved x x' y y' w.first w.other h.moved k.moved

    pub here-equal : eqb x x' ≡ eqb y y'
    here-equal = eqb-moved x x' y y' w.first w.other h.moved k.moved

    pub here-size : x' - x ≡ y' - y
    here-size = omega (arith, h.moved, k.moved, h.begun, k.begun)

    part-byte : (i : ℕ) → i < x' - x → get_or (part r x x') i 0 ≡ get_or (part r' y y') i 0
    part-byte i l =
        get_or-take (x' - x) (drop x r) i 0 l ∙ get_or-drop x r i 0
        ∙ here-byte (here-add h i (omega (arith, k.ended))) (omega (arith, k.ended))
        ∙ sym (get_or-take (y' - y) (drop y r') i 0 (omega (arith, here-size)) ∙ get_or-drop y r' i 0)

    pub here-part : part r x x' ≡ part r' y y'
    here-part =
        let l : length (part r x x') ≡ x' - x = part_length r x x' (omega (arith, k.ended, w.inside)) in
        let m : length (part r' y y') ≡ y' - y = part_length r' y y' (omega (arith, k.ended, k.moved, w.inside')) in
        ext_get_or 0 (part r x x') (part r' y y') (l ∙ here-size ∙ sym m) (λ i n. part-byte i (omega arith))

  pub text_same : {p p' : Span} → SameSpan w p p' → text r p ≡ text r' p'
  text_same h = here-part h.from h.to
