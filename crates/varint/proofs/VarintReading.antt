-- The loop of `varint_at`: what is known at its head, and its laws.
-- Assumes nothing.
use Rattle.std.specs.Prelude.{◌≡◌, refl, List, ◌∷◌, ℕ, zero, suc, ◌+◌, ◌-◌, ◌*◌, ◌%◌, ◌^◌, ◌≤◌, ◌<◌, length, get_or, None, Some, Option}
use Rattle.basis.specs.Kit.{ap, ◌∙◌}
use Rattle.basis.proofs.Kit.{arith, add-one, w64, Fits}
use mathlib.Core.Path.{ap₂}
use native.Mathlib.Nat.{mul_assoc, mul_comm, mul-add, pow-suc, one-le-pow, le-mul_of_pos_right, sub_self}
use native.Mathlib.Numerals.{sub-one}
use lib.Arith.{digits_lt}
use Rattle.limits.specs.Figures.{most_varint}
use Rattle.octets.specs.Octets.{part}
use Rattle.varint.specs.Varint.{continued, read_within, read_varint, varint_at, read}
use Rattle.octets.proofs.Parts.{part-nil, part-cons}
use Rattle.varint.proofs.VarintLaws.{read-last, read-over, read_one, read_more}
use Rattle.varint.specs.declared.Read.{Read}

-- ---- what was read of a varint, and what is read of its rest: k bytes of the value, and the scale of the next
abbrev pub carried : ℕ → ℕ → ℕ → Option Read → Option Read
carried value scale k (Some it) = Some (read (value + scale * it.value) (k + it.next))
carried value scale k None = None

carried-start : (r : Option Read) → r ≡ carried 0 1 0 r
carried-start (Some it1) = ap₂ (λ (v n : ℕ). Some (read v n)) (omega arith) (omega arith)
carried-start None = refl

carried-onto : (value scale k b : ℕ) (r : Option Read)
    → carried value scale k (continued b r) ≡ carried (value + b % 128 * scale) (scale * 128) (k + 1) r
carried-onto value scale k b (Some it1) = ap₂ (λ (v n : ℕ). Some (read v n)) (tidy (b % 128)) (omega arith)
  where
    tidy : (c : ℕ) → value + scale * (c + 128 * it1.value) ≡ value + c * scale + scale * 128 * it1.value
    tidy c = rw (mul-add, mul_assoc, mul_comm c scale) (omega arith)
carried-onto value scale k b None = refl

-- ---- the loop: the scale leaves room for the bytes that may follow, so that no sum wraps
pub record Scaled (value scale more : ℕ) : Type 0 where
  pub room : scale * 128 ^ more ≡ 2 ^ 63
  pub small : value < scale

pub record Reading (s : List ℕ) (at end value scale more i : ℕ) : Type 0 where
  pub from : at ≤ i
  pub within : i ≤ end
  pub inside : end ≤ length s
  pub scaled : Scaled value scale more
  pub rest : read_varint (part s at end) ≡ carried value scale (i - at) (read_within more (part s i end))

pub reading-start : (s : List ℕ) (at end : ℕ) → at ≤ end → end ≤ length s → Reading s at end 0 1 (most_varint - 1) at
unfolding read_varint
reading-start s at end h k =
    record {
      from = omega arith;
      within = h;
      inside = k;
      scaled = record { room = refl; small = omega arith };
      rest = rw (sub_self at) (carried-start (read_varint (part s at end)));
    }

scale-next : (scale more : ℕ) → scale * 128 ^ more ≡ 2 ^ 63 → (more ≡ 0 → ⊥) → scale * 128 * 128 ^ (more - 1) ≡ 2 ^ 63
scale-next scale zero h n = absurd (n refl)
scale-next scale (suc m) h n = rw (sub-one, mul_assoc, mul_comm 128 (128 ^ m), ← (pow-suc 128 m)) h

sum_lt : (m value c scale : ℕ) → value < scale → c < m → value + c * scale < m * scale
sum_lt m value c scale h g = omega (arith, digits_lt g h)

product-fits : (value c scale : ℕ) → Fits w64 (value + c * scale) → Fits w64 (c * scale)
product-fits value c scale h = record { fits = omega (arith, h.fits) }

module _ (value scale more : ℕ) (k : Scaled value scale more) where
  module _ (e : more ≡ 0) (b : ℕ) (h : b < 2) where
    pub sum-last : Fits w64 (value + b * scale)
    sum-last = let q : scale * 1 ≡ 2 ^ 63 = rw e at k.room in record { fits = omega (arith, sum_lt 2 value b scale k.small h) }

    pub product-last : Fits w64 (b * scale)
    product-last = product-fits value b scale sum-last

  module _ (n : more ≡ 0 → ⊥) where
    scale-le : scale * 128 ≤ 2 ^ 63
    scale-le = rw (scale-next scale more k.room n) at (le-mul_of_pos_right (scale * 128) (one-le-pow (more - 1) 128 (omega arith)))

    pub scale-fits : Fits w64 (scale * 128)
    scale-fits = record { fits = omega (arith, scale-le) }

    module _ (b : ℕ) (h : b < 128) where
      pub sum_one : Fits w64 (value + b * scale)
      sum_one = record { fits = omega (arith, scale-le, sum_lt 128 value b scale k.small h) }

      pub product-one : Fits w64 (b * scale)
      product-one = product-fits value b scale sum_one

    module _ (b : ℕ) where
      pub sum_more : Fits w64 (value + b % 128 * scale)
      sum_more = sum_one (b % 128) (omega arith)

      pub product-more : Fits w64 (b % 128 * scale)
      product-more = product-one (b % 128) (omega arith)

    pub scaled-more : (b : ℕ) → Scaled (value + b % 128 * scale) (scale * 128) (more - 1)
    scaled-more b =
        let s = sum_lt 128 value (b % 128) scale k.small (omega arith) in
        record { room = scale-next scale more k.room n; small = omega arith }

module _ (s : List ℕ) (at end value scale more i : ℕ) (k : Reading s at end value scale more i) where
  pub reading-end : end ≤ i → None ≡ varint_at s at end
  unfolding varint_at read_within
  reading-end h = rw (k.rest, part-nil s i end h)

  module _ (h : i < end) (b : ℕ) (e : b ≡ get_or s i 0) where
    head : part s i end ≡ b ∷ part s (suc i) end
    head = part-cons s i end h k.inside ∙ rw e

    got : read_within more (part s i end) ≡ Some (read b 1) → Some (read (value + b * scale) (i + 1)) ≡ varint_at s at end
    unfolding varint_at
    got q = rw (k.rest, q) (ap₂ (λ (v n : ℕ). Some (read v n)) (ap (λ (x : ℕ). value + x) (mul_comm b scale)) (omega (arith, k.from)))

    pub reading-last : more ≡ 0 → b < 2 → Some (read (value + b * scale) (i + 1)) ≡ varint_at s at end
    reading-last z g = got (rw (head, z) (read-last b (part s (suc i) end) g))

    pub reading-over : more ≡ 0 → 2 ≤ b → None ≡ varint_at s at end
    unfolding varint_at
    reading-over z g = rw (k.rest, head, z, read-over b (part s (suc i) end) g)

    module _ (n : more ≡ 0 → ⊥) where
      one_fewer : read_within more (part s i end) ≡ read_within (suc (more - 1)) (b ∷ part s (suc i) end)
      one_fewer = ap₂ read_within (omega arith) head

      pub reading-one : b < 128 → Some (read (value + b * scale) (i + 1)) ≡ varint_at s at end
      reading-one g = got (one_fewer ∙ read_one b (part s (suc i) end) (more - 1) g)

      module _ (g : 128 ≤ b) where
        onwards : read_varint (part s at end)
            ≡ carried (value + b % 128 * scale) (scale * 128) (i + 1 - at) (read_within (more - 1) (part s (i + 1) end))
        onwards =
            let far : i - at + 1 ≡ i + 1 - at = omega (arith, k.from) in
            k.rest ∙ rw (one_fewer, read_more b (part s (suc i) end) (more - 1) g, carried-onto, far, add-one i)

        pub reading-more : Reading s at end (value + b % 128 * scale) (scale * 128) (more - 1) (i + 1)
        reading-more =
            record {
              from = omega (arith, k.from);
              within = omega arith;
              inside = k.inside;
              scaled = scaled-more value scale more k.scaled n b;
              rest = onwards;
            }

pub ruleset scaled_laws = (scale-fits, sum-last, product-last, sum_one, product-one, sum_more, product-more)

pub ruleset reading_laws = (reading-start, reading-end, reading-last, reading-over, reading-one, reading-more, scaled_laws)
