-- The loop of `put_varint`: what is known at its head, and its laws.
-- Assumes nothing.
use Rattle.std.specs.Prelude.{◌≡◌, List, [], ◌∷◌, ℕ, ◌+◌, ◌-◌, ◌/◌, ◌%◌, ◌^◌, ◌≤◌, ◌<◌, length}
use Rattle.basis.specs.Kit.{ap, ◌∙◌, sets}
use Rattle.basis.proofs.Kit.{arith, w64, Fits}
use lib.Seq.{length-sets}
use Rattle.limits.specs.Figures.{most_varint}
use Rattle.octets.specs.inner.Laid.{Laid}
use Rattle.varint.specs.Varint.{varint}
use Rattle.octets.proofs.Halfway.{Halfway, halfway-start, halfway-next, halfway-end, halfway-place, halfway-length}
use Rattle.varint.proofs.VarintLaws.{Shortest, shortest-end, shortest-more, varint-shortened, varint-few}

-- the bytes before x are laid
pub record Writing (l : List ℕ) (at v : ℕ) (l' : List ℕ) (x i : ℕ) : Type 0 where
  pub room : ℕ
  pub rest : List ℕ
  pub left : Shortest room x rest
  pub laid : Halfway l at (varint v) rest l' i

pub writing_start : (l : List ℕ) (at v : ℕ) → v < 2 ^ 64 → Writing l at v l v at
writing_start l at v h =
    record { room = most_varint - 1; rest = varint v; left = varint-shortened v h; laid = halfway-start l at (varint v) }

module _ (l : List ℕ) (at v : ℕ) (m : List ℕ) (x i : ℕ) (w : Writing l at v m x i) where
  pub writing-fits : at < 2 ^ 63 → Fits w64 (i + 1)
  writing-fits h = record { fits = omega (arith, halfway-place w.rest w.laid, varint-few v) }

  pub writing-next : (l' : List ℕ) → l' ≡ sets m i ((128 + x % 128) ∷ []) → 128 ≤ x → Writing l at v l' (x / 128) (i + 1)
  writing-next l' e h =
      let t = shortest-more w.left h in
      record {
        room = t.room;
        rest = t.rest;
        left = t.left;
        laid = halfway-next (128 + x % 128) t.rest (rw t.first at w.laid) e;
      }

  pub writing-end : (l' : List ℕ) → l' ≡ sets m i (x ∷ []) → x < 128 → Laid l at (varint v) l' (i + 1)
  writing-end l' e h = halfway-end (halfway-next x [] (rw (shortest-end w.left h) at w.laid) e)

  pub writing-length : (b : ℕ) (l' : List ℕ) → l' ≡ sets m i (b ∷ []) → length l' ≡ length l
  writing-length b l' e = ap length e ∙ length-sets m i (b ∷ []) ∙ halfway-length w.laid

pub ruleset writing_laws = (writing_start, writing-fits, writing-next, writing-end, writing-length)
