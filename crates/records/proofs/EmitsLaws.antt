-- What a writer of records answers and leaves: one set of laws for every Result that a writer answers.
-- Assumes nothing.
use Rattle.std.specs.Prelude.{◌≡◌, refl, List, ℕ, ◌+◌, ◌≤◌, length, Err, Ok, Result}
use Rattle.std.specs.Result.{IsErrAnd}
use Rattle.basis.specs.Kit.{sym, ap, ◌∙◌}
use Rattle.basis.proofs.Kit.{arith}
use native.Mathlib.Nat.{add-zero, le_trans}
use Rattle.basis.proofs.Never.{never}
use Rattle.octets.specs.inner.Laid.{Laid}
use Rattle.records.specs.Records.{Recs, nil, encode}
use Rattle.records.specs.Made.{Made, made, wrong}
use Rattle.records.specs.inner.Emits.{wrote_of, Emits}

-- an answer has a case `next` for a place and another, `stop`, for what is wrong, and `answers` gives these
pub record Tells {W A : Type 0} (answers : ℕ → Made W → A) (next : ℕ → A) (stop : W → A) : Type 0 where
  pub makes : (at : ℕ) (x : Recs) → answers at (made x) ≡ next (at + length (encode x))
  pub stops : (at : ℕ) (w : W) → answers at (wrong w) ≡ stop w
  pub next-inv : (m n : ℕ) → next m ≡ next n → m ≡ n
  pub stop-inv : (v w : W) → stop v ≡ stop w → v ≡ w
  pub apart : (n : ℕ) (w : W) → next n ≡ stop w → ⊥

pub wrote-tells : Tells wrote_of Ok Err
unfolding wrote_of
wrote-tells = record {
  makes = λ at x. refl;
  stops = λ at w. refl;
  next-inv = λ m n e. cc;
  stop-inv = λ v w e. cc;
  apart = λ n w e. never cc;
}

-- what a writer that came to a place made and left
pub record Given {W : Type 0} (m : Made W) (k : ℕ) (l : List ℕ) (at : ℕ) (l' : List ℕ) (n : ℕ) : Type 0 where
  pub recs : Recs
  pub is : m ≡ made recs
  pub laid : Laid l at (encode recs) l' n
  pub few : length (encode recs) ≤ k

module _ {W A : Type 0} {answers : ℕ → Made W → A} {next : ℕ → A} {stop : W → A} (T : Tells answers next stop) where
  module _ {k : ℕ} {l : List ℕ} {at : ℕ} {l' : List ℕ} {y : A} where
    -- ---- what an answer shows
    pub emits-next : (m : Made W) (n : ℕ) → Emits answers m k l at l' y → y ≡ next n → Given m k l at l' n
    emits-next (made x) n u e =
        let same : n ≡ at + length (encode x) = T.next-inv n (at + length (encode x)) (sym e ∙ u.answer ∙ T.makes at x) in
        record { recs = x; is = refl; laid = record { next = same; left = u.left x refl }; few = u.few x refl }
    emits-next (wrong v) n u e = absurd (T.apart n v (sym e ∙ u.answer ∙ T.stops at v))

    pub emits-refused : (m : Made W) (w : W) → Emits answers m k l at l' y → y ≡ stop w → m ≡ wrong w
    emits-refused (made x) w u e = absurd (T.apart (at + length (encode x)) w (sym (T.makes at x) ∙ sym u.answer ∙ e))
    emits-refused (wrong v) w u e = ap wrong (T.stop-inv v w (sym (T.stops at v) ∙ sym u.answer ∙ e))

  -- ---- what is to be answered, of what m is
  module _ {m : Made W} {k : ℕ} {l : List ℕ} {at : ℕ} {y : A} where
    pub refuses : {l' : List ℕ} (w : W) → m ≡ wrong w → y ≡ stop w → Emits answers m k l at l' y
    refuses w e g = record { answer = g ∙ sym (ap (answers at) e ∙ T.stops at w); left = λ x g. never cc; few = λ x g. never cc }

    pub emits-laid : {l' : List ℕ} (x : Recs) (n : ℕ) → Laid l at (encode x) l' n → m ≡ made x → length (encode x) ≤ k → y ≡ next n
        → Emits answers m k l at l' y
    emits-laid x n a e h g = record {
      answer = g ∙ ap next a.next ∙ sym (ap (answers at) e ∙ T.makes at x);
      left = λ z i. let same : z ≡ x = cc in rw same a.left;
      few = λ z i. let same : z ≡ x = cc in rw same h;
    }

    pub writes-none : m ≡ made nil → y ≡ next at → Emits answers m k l at l y
    unfolding encode
    writes-none e g = emits-laid nil at (record { next = sym (add-zero at); left = refl }) e (omega arith) g

-- where more bytes are allowed
pub emits-more : {W A : Type 0} {answers : ℕ → Made W → A} {m : Made W} {j : ℕ} {l : List ℕ} {at : ℕ} {l' : List ℕ} {y : A} (k : ℕ)
    → Emits answers m k l at l' y → k ≤ j → Emits answers m j l at l' y
emits-more k u h = record { answer = u.answer; left = u.left; few = λ x g. le_trans (u.few x g) h }

-- what `?` hands on
pub hands-on : {W E : Type 0} {answers : ℕ → Made W → Result ℕ E} {m : Made W} {k : ℕ} {l : List ℕ} {at : ℕ} {l' : List ℕ} {y : Result ℕ E}
    {w : E} → IsErrAnd y (λ e. e ≡ w) → Emits answers m k l at l' (Err w) → Emits answers m k l at l' y
hands-on {y = Ok x} h u = elim h [ ]
hands-on {y = Err e} h u = rw h u

-- a search over these wants the `Tells` of the writer's answer in its list too
pub ruleset emits_laws = (emits-next, emits-refused, refuses, emits-laid, writes-none, emits-more)
