-- What is found and measured before anything is written.
--
--             Opens s r v <-> v is what the options of the request r start with in the sheet s
--                rest_of g ==  the records that are no known builtins; of a refusal none
--                 all_of g ==  all records that the options come to; of a refusal none
--      Counted s r ns h n <-> the options that start with h are gathered: they are n, and the notes ns say which of them set the known builtins
--      Tallies s r ns h y <-> y is the answer that says so, with the bytes of the others, or says why they are not gathered
--            Ready s r ns m <-> they are gathered, and m says what there is to write of them
--   Measures s r o ns v <-> v was answered of what the request comes to, o
--
-- Assumes nothing.
use Rattle.std.specs.Prelude.{◌≡◌, List, ℕ, ◌≤◌, length, Err, None, Some, Ok, Option, Result}
use Rattle.limits.specs.Figures.{most_options}
use Rattle.records.specs.Records.{Recs, nil, append, encode}
use Rattle.records.specs.inner.Emits.{bytes_most}
use Rattle.lookups.specs.Lookups.{walking}
use Rattle.known.specs.Known.{Known, known_recs}
use Rattle.known.specs.inner.Notes.{Noted}
use Rattle.options.specs.declared.settle.Start.{Start}
use Rattle.reply.specs.declared.Cause.{Cause}
use Rattle.options.specs.declared.Tally.{Tally}
use Rattle.options.specs.inner.Settling.{Started}
use Rattle.options.specs.Options.{Gathered, gathered, stopped}
use Rattle.options.specs.inner.Gathering.{gathered_by, made_at, FineFrom}
use Rattle.options.specs.declared.measure.Measured.{Measured}
use Rattle.options.specs.Steps.{Steps, absent, refused, steps_in, steps_of}

abbrev pub rest_of : Gathered → Recs
rest_of (gathered ks x) = x
rest_of (stopped e) = nil

abbrev pub all_of : Gathered → Recs
all_of (gathered ks x) = append (known_recs ks) x
all_of (stopped e) = nil

pub record Open (s r : List ℕ) (h : Start) : Type 0 where
  pub steps : steps_of (walking s) s r ≡ steps_in (gathered_by (walking s) s r h)
  pub started : Started s r h
  pub fine : FineFrom r h

pub data Opens (s r : List ℕ) : Result (Option Start) Cause → Type 0 where
  at : {h : Start} → Open s r h → Opens s r (Ok (Some h))
  none : steps_of (walking s) s r ≡ absent → Opens s r (Ok None)
  lost : {e : Cause} → steps_of (walking s) s r ≡ refused e → Opens s r (Err e)

pub record Counted (s r ns : List ℕ) (h : Start) (n : ℕ) : Type 0 where
  pub knowns : List Known
  pub rest : Recs
  pub gathers : gathered_by (walking s) s r h ≡ gathered knowns rest
  pub noted : Noted (made_at (walking s) s r h) ns n knowns
  pub count : n ≤ most_options
  pub few : length (encode (append (known_recs knowns) rest)) ≤ bytes_most (length r)

-- what the loop over the options answered of them
pub record Tallies (s r ns : List ℕ) (h : Start) (y : Result Tally Cause) : Type 0 where
  pub stops : (e : Cause) → y ≡ Err e → gathered_by (walking s) s r h ≡ stopped e
  pub counts : (t : Tally) → y ≡ Ok t → Counted s r ns h t.count
  pub others : (t : Tally) → y ≡ Ok t → t.end ≡ length (encode (rest_of (gathered_by (walking s) s r h)))

pub record Ready (s r ns : List ℕ) (m : Measured) : Type 0 where
  pub counted : Counted s r ns m.start m.count
  pub started : Started s r m.start
  pub fine : FineFrom r m.start
  pub length-is : m.length ≡ length (encode (append (known_recs counted.knowns) counted.rest))

pub data Measures (s r : List ℕ) : Steps → (ns : List ℕ) → Result (Option Measured) Cause → Type 0 where
  fine : {ns : List ℕ} {m : Measured} → Ready s r ns m → Measures s r (steps_in (gathered_by (walking s) s r m.start)) ns (Ok (Some m))
  none : {ns : List ℕ} → Measures s r absent ns (Ok None)
  refuses : {ns : List ℕ} {e : Cause} → Measures s r (refused e) ns (Err e)
