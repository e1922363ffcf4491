-- The laws of what is taken of a record, one for each way through the code.
-- Assumes nothing.
use Rattle.std.specs.Prelude.{◌≡◌, ℕ, ◌+◌, ◌≤◌, None, Some, Option, Err, Ok}
use Rattle.basis.specs.Kit.{sym, ◌∙◌}
use Rattle.basis.proofs.Kit.{arith, eq-eqb, ne_eqb, w64, Fits}
use mir.Syntax.{w32}
use Rattle.limits.specs.Figures.{most_option_bytes}
use Rattle.reply.specs.declared.Refusal.TheVariants.{BadBytes, WireMismatch}
use Rattle.types.specs.Types.{wire_of}
use Rattle.payloads.specs.Value.{value_of}
use Rattle.taken.specs.inner.Taking.{taken, PayloadIn, unknown_taken, plain_taken, known_taken}
use Rattle.payloads.specs.declared.Payload.{Payload}

-- ---- a payload in 65,536 bytes: its place, its size and the place after it are words
module _ (p : Option Payload) (h : PayloadIn most_option_bytes p) (x : Payload) (e : p ≡ Some x) where
  room : x.at + x.size ≤ most_option_bytes
  unfolding PayloadIn
  room = rw e at h

  pub place-fits : Fits w32 x.at
  place-fits = record { fits = omega (arith, room) }

  pub size_fits : Fits w32 x.size
  size_fits = record { fits = omega (arith, room) }

  pub next_fits : Fits w64 (x.at + x.size)
  next_fits = record { fits = omega (arith, room) }

pub ruleset fits_laws = (place-fits, size_fits, next_fits)

-- ---- unknown
module _ (p : Option Payload) where
  pub unknown-cut : p ≡ None → Err BadBytes ≡ unknown_taken p
  unfolding unknown_taken
  unknown-cut e = rw e

  pub unknown-whole : (x : Payload) → p ≡ Some x → Ok (taken x.at x.size 0 (x.at + x.size)) ≡ unknown_taken p
  unfolding unknown_taken
  unknown-whole x e = rw e

pub ruleset unknown_laws = (fits_laws, unknown-cut, unknown-whole)

-- ---- known
module _ (t w : ℕ) (p : Option Payload) (x : ℕ) (q : x ≡ wire_of t) where
  pub known-other-wire : (x ≡ w → ⊥) → Err WireMismatch ≡ known_taken t w p
  unfolding known_taken
  known-other-wire n = rw (ne_eqb (wire_of t) w (λ y. n (q ∙ y)), known_taken)

  module _ (e : x ≡ w) where
    on-wire : known_taken t w p ≡ plain_taken t p
    unfolding known_taken
    on-wire = rw (eq-eqb (wire_of t) w (sym q ∙ e), known_taken)

    pub known-cut : p ≡ None → Err BadBytes ≡ known_taken t w p
    known-cut g = rw on-wire (rw g)

    pub known-whole : (z : Payload) → p ≡ Some z → (u : ℕ) → u ≡ value_of t z.number → Ok (taken z.at z.size u (z.at + z.size)) ≡ known_taken t w p
    known-whole z g u y = rw on-wire (rw (g, y))

pub ruleset known_laws = (fits_laws, known-other-wire, known-cut, known-whole)
