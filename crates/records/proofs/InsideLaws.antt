-- A message's record: what it holds is written behind the shortest head, and then enclosed. One set of laws for every Result that a writer
-- answers.
-- Assumes nothing.
use Rattle.std.specs.Prelude.{◌≡◌, List, ℕ, ◌+◌, ◌-◌, ◌^◌, ◌≤◌, ◌<◌, length}
use Rattle.basis.specs.Kit.{sym, ap, ◌∙◌, sets}
use Rattle.basis.proofs.Kit.{arith, w64, Fits}
use mathlib.Core.List.{append-nil}
use lib.ListN.{length-append}
use Rattle.octets.specs.inner.Laid.{Laid}
use Rattle.records.specs.Records.{Recs, nil, message, encode}
use Rattle.records.specs.Made.{Made, holding}
use Rattle.records.specs.inner.Emits.{bytes_most, Emits, Roomy}
use Rattle.records.specs.inner.Enclosed.{shortest, Encloses}
use Rattle.records.proofs.RecsLaws.{message-few}
use Rattle.records.proofs.EmitsLaws.{Tells, emits-next, emits-refused, refuses, emits-laid}

-- what is enclosed is the record of a message
message-laid : (n at k : ℕ) (x : Recs) → k ≡ length (encode x) → (l m l' : List ℕ) (r : ℕ) → m ≡ sets l (at + shortest n) (encode x)
    → Encloses m at n k l' r → Laid l at (encode (message n x nil)) l' r
unfolding encode
message-laid n at k x size l m l' r laid closed = rw (append-nil, ← size) (record {
  next = closed.next ∙ rw length-append (omega (arith, size));
  left = closed.left l (encode x) (sym size) laid;
})

module _ {W A : Type 0} {answers : ℕ → Made W → A} {next : ℕ → A} {stop : W → A} (T : Tells answers next stop) where
  module _ (n : ℕ) (b : Made W) (i j : ℕ) (l m : List ℕ) (at s : ℕ) (y : A) (u : Emits answers b i l s m y) where
    pub inside-refused : (w : W) → y ≡ stop w → (z : A) → z ≡ stop w → Emits answers (holding n b) j l at m z
    inside-refused w g z e = refuses T w (ap (holding n) (emits-refused T b w u g)) e

  module _ (n : ℕ) (b : Made W) (j : ℕ) (l m : List ℕ) (at f : ℕ) (y : A) (u : Emits answers b (bytes_most j) l (at + f) m y) (p : ℕ)
      (g : y ≡ next p) where
    pub inside-start : at + f ≤ p
    inside-start = let made = emits-next T b p u g in omega (arith, made.laid.next)

    pub inside-few : (r : List ℕ) → Roomy at (3 + j) r → at + (p - (at + f)) < 2 ^ 62
    inside-few r o = let made = emits-next T b p u g in omega (arith, o.room, made.laid.next, made.few)

    pub inside-enclosed : (l' : List ℕ) (r : ℕ) → Encloses m at n (p - (at + f)) l' r → f ≡ shortest n → (y' : A) → y' ≡ next r
        → Emits answers (holding n b) (bytes_most (3 + j)) l at l' y'
    inside-enclosed l' r closed short y' e =
        let made = emits-next T b p u g in
        let x = made.recs in
        let size : p - (at + f) ≡ length (encode x) = omega (arith, made.laid.next) in
        let behind : m ≡ sets l (at + shortest n) (encode x) = rw (← short) made.laid.left in
        emits-laid T (message n x nil) r (message-laid n at (p - (at + f)) x size l m l' r behind closed) (ap (holding n) made.is)
        (omega (arith, message-few n x, made.few)) e

-- ---- numbers that fit
module _ (at j f : ℕ) (r : List ℕ) (o : Roomy at (3 + j) r) (few : f ≤ 11) where
  pub inside-room : Roomy (at + f) j r
  inside-room = record { room = omega (arith, o.room, few) }

  pub inside-fits : Fits w64 (at + f)
  inside-fits = record { fits = omega (arith, o.room, few) }

-- a search over these wants the `Tells` of the writer's answer in its list too
pub ruleset inside_laws = (inside-refused, inside-start, inside-few, inside-enclosed, inside-room, inside-fits)
