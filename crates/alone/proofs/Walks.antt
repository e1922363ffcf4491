-- Fields in two requests at places that correspond: the same field, and the same fields in order.
--
--   SameField w f f' <-> both are cut, or both are whole, of one tag and with the same payload
--     SameWalk w u v <-> u and v are the same fields, and end alike
--
-- Assumes nothing.
use Rattle.std.specs.Prelude.{◌≡◌, true, false, List, ℕ, zero, suc, ◌+◌, ◌-◌, ◌≤◌, ltb, get_or, None, Some, Option}
use Rattle.basis.specs.Kit.{sym}
use Rattle.basis.proofs.Kit.{arith}
use borrow.Author.Tests.{ltb-false}
use Rattle.octets.specs.Octets.{big_at}
use Rattle.field.specs.declared.Span.{Span}
use Rattle.field.specs.Field.{header, field_at, field}
use Rattle.field.specs.Leaf.{span}
use Rattle.field.specs.Walk.{Walk, done, cut, step, walk_on, walk_for, walk_by, walk}
use Rattle.alone.proofs.Tests.{by_cases, ltb-moved}
use Rattle.alone.proofs.Windows.{Twin, Here, SameSpan, here-byte, here-add, here-big, here-less, here-size}
use Rattle.field.specs.declared.Field.{Field}

pub data SameField {r r' : List ℕ} (w : Twin r r') : Option Field → Option Field → Type 0 where
  both-cut : SameField w None None
  both-whole : {t x x' y y' : ℕ} → SameSpan w (span x x') (span y y') → SameField w (Some (field t x x')) (Some (field t y y'))

pub data SameWalk {r r' : List ℕ} (w : Twin r r') : Walk → Walk → Type 0 where
  dones : SameWalk w done done
  cuts : SameWalk w cut cut
  steps : {t x x' y y' : ℕ} {u v : Walk} → SameSpan w (span x x') (span y y') → SameWalk w u v
      → SameWalk w (step t x x' u) (step t y y' v)

module _ {r r' : List ℕ} (w : Twin r r') where
  module _ {x x' y y' : ℕ} (h : Here w x y) (k : Here w x' y') where
    abbrev size : ℕ
    size = big_at 2 r (x + 1)

    abbrev size' : ℕ
    size' = big_at 2 r' (y + 1)

    module _ (l : x + header ≤ x') where
      size_same : size' ≡ size
      size_same = sym (here-big w (here-add w h 1 (omega (arith, k.ended))) 2 (omega (arith, k.ended)))

      less-same : ltb x' (x + header + size) ≡ ltb y' (y + header + size')
      less-same =
          ltb-moved x' (x + header + size) y' (y + header + size') w.first w.other k.moved (omega (arith, h.moved, size_same))

      whole_same : x + header + size ≤ x'
          → SameField w (Some (field (get_or r x 0) (x + header) (x + header + size))) (Some (field (get_or r' y 0) (y + header) (y + header + size')))
      whole_same m =
          let from = here-add w h header (omega (arith, k.ended)) in
          rw (size_same, ← here-byte w h (omega (arith, k.ended)))
          (both-whole (record { from = from; to = here-add w from size (omega (arith, k.ended)) }))

      long_same : SameField w
          (elim (ltb x' (x + header + size)) [ true ↦ None | false ↦ Some (field (get_or r x 0) (x + header) (x + header + size)) ])
          (elim (ltb y' (y + header + size')) [ true ↦ None | false ↦ Some (field (get_or r' y 0) (y + header) (y + header + size')) ])
      long_same = by_cases (SameField w) less-same (λ _. both-cut) (λ b. whole_same (ltb-false x' (x + header + size) b))

    pub field-same : SameField w (field_at r x x') (field_at r' y y')
    unfolding field_at
    field-same =
        by_cases (SameField w)
        (ltb-moved x' (x + header) y' (y + header) w.first w.other k.moved (omega (arith, h.moved)))
        (λ _. both-cut) (λ b. long_same (ltb-false x' (x + header) b))

  -- ---- fields in order
  module _ (after after' : ℕ → Walk) (more : (x y : ℕ) → Here w x y → SameWalk w (after x) (after' y)) where
    follow-same : {f f' : Option Field} → SameField w f f' → SameWalk w (walk_on f after) (walk_on f' after')
    follow-same both-cut = cuts
    follow-same (both-whole {x'} {y'} h) = steps h (more x' y' h.to)

  module _ {x' y' : ℕ} (k : Here w x' y') where
    for-same : (n x y : ℕ) → Here w x y → SameWalk w (walk_for field_at n r x x') (walk_for field_at n r' y y')
    for-same zero x y h = dones
    for-same (suc n) x y h =
        by_cases (SameWalk w) (here-less w h k)
        (λ _. follow-same (λ e. walk_for field_at n r e x') (λ e. walk_for field_at n r' e y') (for-same n) (field-same h k))
        (λ _. dones)

  pub walk_same : {p p' : Span} → SameSpan w p p' → SameWalk w (walk r p.from p.to) (walk r' p'.from p'.to)
  unfolding walk_by
  walk_same {p} {p'} h = rw (← here-size w h.from h.to) (for-same h.to (p.to - p.from) p.from p'.from h.from)
