-- A loop that writes what fields of a request come to, one after the other: what was written so far, and what is left to write.
--
--   Front v F s from to i l m at p <-> what the fields before the place i come to is laid over l, from `at` up to p; v is the whole, and F
--                                      says what the fields that are left come to
--
--   FrontIn v F s from to it l m at p <-> so it is at the place where the walk `it` over the fields stands
--
-- Assumes nothing.
use Rattle.std.specs.Prelude.{◌≡◌, refl, List, ℕ, ◌+◌, ◌-◌, ◌≤◌, length, Err, Ok, Result}
use Rattle.basis.specs.Kit.{sym, ap, ◌∙◌}
use Rattle.basis.proofs.Kit.{arith}
use native.Mathlib.Nat.{add-zero}
use lib.ListN.{length-append}
use Rattle.octets.specs.inner.Laid.{Laid}
use Rattle.octets.proofs.Overlay.{laid-append, laid-length}
use Rattle.reply.specs.declared.Refusal.{Refusal}
use Rattle.field.specs.Walk.{Walk, walk}
use Rattle.field.specs.declared.fields.Fields.{Fields}
use Rattle.field.proofs.InFields.{Over}
use Rattle.field.proofs.FieldLaws.{field-reads}
use Rattle.field.proofs.Rest.{Rest}
use Rattle.records.specs.Records.{Recs, nil, append, encode}
use Rattle.records.specs.Made.{Made, made, wrong, after, both}
use Rattle.records.specs.inner.Emits.{bytes_most, wrote_of, Emits, Roomy}
use Rattle.records.proofs.RecsLaws.{append-nil-right, encode-append}
use Rattle.records.proofs.MadeLaws.{after-nil, after-after}
use Rattle.records.proofs.EmitsLaws.{wrote-tells, emits-next, emits-refused, refuses, emits-laid}

pub record Front (v : Made Refusal) (F : Walk → Made Refusal) (s : List ℕ) (from to i : ℕ) (l m : List ℕ) (at p : ℕ) : Type 0 where
  pub front : Recs
  pub laid : Laid l at (encode front) m p
  pub rest : Rest v (λ w. after front (F w)) s to i
  pub few : length (encode front) + bytes_most from ≤ bytes_most i

-- the same of a loop by `for`
pub record FrontIn (v : Made Refusal) (F : Walk → Made Refusal) (s : List ℕ) (from to : ℕ) (it : Fields) (l m : List ℕ) (at p : ℕ) : Type 0 where
  pub over : Over it s to
  pub front : Front v F s from to it.at l m at p

pub front-start : (F : Walk → Made Refusal) (s : List ℕ) (from to : ℕ) → from ≤ to → to ≤ length s → (l : List ℕ) (at : ℕ)
    → Front (F (walk s from to)) F s from to from l l at at
unfolding encode
front-start F s from to j k l at = record {
  front = nil;
  laid = record { next = sym (add-zero at); left = refl };
  rest = record { reads = field-reads; within = j; inside = k; rest = sym (after-nil (F (walk s from to))) };
  few = omega arith;
}

module _ (v : Made Refusal) (F : Walk → Made Refusal) (s : List ℕ) (from to i : ℕ) (l m : List ℕ) (at p : ℕ)
    (k : Front v F s from to i l m at p) where
  pub front_length : length m ≡ length l
  front_length = laid-length (encode k.front) k.laid

  pub front-after : (m' : List ℕ) → length m' ≡ length m → length m' ≡ length l
  front-after m' e = e ∙ front_length

  pub front-whole : v ≡ after k.front (made nil) → Emits wrote_of v (bytes_most (to - from)) l at m (Ok p)
  front-whole x =
      emits-laid wrote-tells k.front p k.laid (x ∙ ap made (append-nil-right k.front))
      (omega (arith, k.few, k.rest.within)) refl

  -- what the n bytes before e come to, of which three more are a header
  module _ (n e : ℕ) (h : i + 3 + n ≤ e) (j : e ≤ to) where
    pub front-room : Roomy at (to - from) s → Roomy p (3 + n) s
    front-room o = record { room = omega (arith, o.room, k.few, k.laid.next) }

    pub front_less : n + 3 ≤ to - from
    front_less = omega (arith, k.few)

    module _ (x : Made Refusal) (m' : List ℕ) (y : Result ℕ Refusal) (u : Emits wrote_of x (bytes_most (3 + n)) m p m' y)
        (first : v ≡ after k.front (both x (F (walk s e to)))) where
      pub front-refused : (w : Refusal) → y ≡ Err w → Emits wrote_of v (bytes_most (to - from)) l at m' (Err w)
      front-refused w z =
          let o : v ≡ wrong w =
          first ∙ ap (λ (b : Made Refusal). after k.front (both b (F (walk s e to)))) (emits-refused wrote-tells x w u z) in
          refuses wrote-tells w o refl

      pub front-next : (q : ℕ) → y ≡ Ok q → Front v F s from to e l m' at q
      front-next q z =
          let f = emits-next wrote-tells x q u z in
          let same = encode-append k.front f.recs in
          let c = length-append (encode k.front) (encode f.recs) in
          record {
            front = append k.front f.recs;
            laid = rw same (laid-append (encode k.front) (encode f.recs) k.laid f.laid);
            rest = record {
              reads = k.rest.reads;
              within = j;
              inside = k.rest.inside;
              rest = first
                  ∙ ap (λ (b : Made Refusal). after k.front (both b (F (walk s e to)))) f.is
                  ∙ after-after k.front f.recs (F (walk s e to));
            };
            few = rw same (omega (arith, c, k.few, f.few));
          }
