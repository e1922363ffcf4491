-- What a writer of records answers and leaves. Writers answer different Results, so what they answer is a parameter.
--
--                      InBody b r <-> the span that the body b holds, where it holds one, is one of r
--                     bytes_most n ==  how many bytes n bytes of a request come to at the most
--                     wrote_of at m ==  what a writer of constants answers: the place after the records, or what is wrong
--   Emits answers m k l at l' r <-> the writer of m, from the place `at` on, answered r; where m is records, l' is l with their bytes over
--                                   it, and these are at most k
--             Roomy at n r <-> what n bytes of the request r come to, from `at` on, is far from the largest numbers
--
-- Assumes nothing.
use Rattle.std.specs.Prelude.{◌≡◌, List, ℕ, ◌+◌, ◌*◌, ◌^◌, ◌≤◌, ◌<◌, length, Err, Ok, Result}
use Rattle.basis.specs.Kit.{sets}
use Rattle.reply.specs.declared.Refusal.{Refusal}
use Rattle.field.specs.Leaf.{Lies}
use Rattle.records.specs.declared.Body.{Body}
use Rattle.records.specs.declared.Body.TheVariants.{Bits, Bytes}
use Rattle.records.specs.Records.{Recs, encode}
use Rattle.records.specs.Made.{Made, made, wrong}

unfoldable pub InBody : Body → List ℕ → Type 0
InBody (Bits b) r = Unit {0}
InBody (Bytes p) r = Lies p r

-- a header has three bytes, and a record's tag and length, or its tag and number, at most twenty
abbrev pub bytes_most : ℕ → ℕ
bytes_most n = 7 * n

unfoldable pub wrote_of : (at : ℕ) → Made Refusal → Result ℕ Refusal
wrote_of at (made x) = Ok (at + length (encode x))
wrote_of at (wrong w) = Err w

pub record Emits {W A : Type 0} (answers : ℕ → Made W → A) (m : Made W) (k : ℕ) (l : List ℕ) (at : ℕ) (l' : List ℕ) (r : A) : Type 0 where
  pub answer : r ≡ answers at m
  pub left : (x : Recs) → m ≡ made x → l' ≡ sets l at (encode x)
  pub few : (x : Recs) → m ≡ made x → length (encode x) ≤ k

pub record Roomy (at n : ℕ) (r : List ℕ) : Type 0 where
  pub room : at + bytes_most n + length r < 2 ^ 61
