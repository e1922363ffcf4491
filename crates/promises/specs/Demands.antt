-- The project's three demands, each as one statement.
--
--   FromTable o before after a <-> what a call that comes to o answers, a, and leaves in the lent memory, `after`, is 01's: a refusal by its
--                                  numbers, which has written nothing; Absent; elements, where there is room; and NoRoom for elements alone
--                     ByRule s <-> what is looked up in a sheet, what is written and what is listed under it, when an extension is not
--                                  found, and where a request or a query's name is refused, are Encoding's, 01's and 02's
--
-- Assumes nothing.
use Rattle.std.specs.Prelude.{◌≡◌, true, List, ◌++◌, ℕ, ◌≤◌, ◌<◌, length, drop, Some, Err, Ok}
use Rattle.basis.specs.Among.{Among}
use Rattle.octets.proofs.Bytes.{Bytes}
use Rattle.reply.specs.declared.Refusal.TheVariants.{ExtensionNotFound, NoRoom}
use Rattle.reply.specs.declared.Cause.{Cause}
use Rattle.reply.specs.declared.Answer.{Answer}
use Rattle.reply.specs.Reply.{refused_for, refused_by, done_with, absent_answer}
use Rattle.reply.specs.Outcome.{Outcome, nothing, give, Answered}
use Rattle.reply.specs.Outcome as outcome
use Rattle.path.specs.Path.{Path, is_path}
use Rattle.candidates.specs.Candidates.{candidates}
use Rattle.field.specs.Leaf.{text}
use Rattle.search.specs.declared.extension.Candidate.{Candidate}
use Rattle.search.specs.Lookup.{tried}
use Rattle.search.specs.Answers.{Undeclared, AnswersAt}
use Rattle.request.specs.declared.name.Part.{Part}
use Rattle.records.specs.Records.{Recs, encode}
use Rattle.records.specs.Raw.{raw_of, raws_of}
use Rattle.lookups.specs.Lookups.{Message, walking}
use Rattle.steps.specs.declared.Lack.{Lack}
use Rattle.steps.specs.declared.Lack.TheVariants.{NoExtension}
use Rattle.steps.specs.Steps.{why_of, step_of}
use Rattle.options.specs.Steps.{records}
use Rattle.options.specs.Resolve.{resolving, resolve_bytes}
use Rattle.entries.specs.Tree.{Tree}
use Rattle.entries.specs.Reading.{under, records_of}
use Rattle.query.specs.Query.{query}
use Rattle.places.specs.Places.{OptionRefused, Positioned, FirstRefused, PartRefused, QueryPlaced}
use Rattle.readback.specs.Encoded.{Encoded}
use Rattle.readback.specs.Knows.{Knows}

-- "1. Every sheet, request or byte string gets an answer from 01's table. A refusal writes nothing to lent memory; NoRoom comes only when
-- all else has passed."
pub data FromTable {A : Type 0} (o : Outcome A) (before after : List A) (a : Answer) : Type 0 where
  refused : (c : Cause) → o ≡ outcome.refused c → a ≡ refused_for c → after ≡ before → FromTable o before after a
  absent : o ≡ nothing → a ≡ absent_answer → after ≡ before → FromTable o before after a
  done : (l : List A) → o ≡ give l → length l ≤ length before → a ≡ done_with (length l) → after ≡ l ++ drop (length l) before
      → FromTable o before after a
  no_room : (l : List A) → o ≡ give l → length before < length l → a ≡ refused_by NoRoom → after ≡ before → FromTable o before after a

-- "2. Lookup, bytes, .. and the listing are proved against definitions from the protobuf encoding document and 01's search rule. An
-- extension part that is reached gets ExtensionNotFound exactly when none of 01's scopes at its candidate paths declares that name."
pub record ByRule (s : List ℕ) : Type 0 where
  pub looked-up-only : (scope name : List ℕ) (c : Candidate) → tried s scope name ≡ Ok c → AnswersAt s scope name c
  pub looked-up-whenever : (scope name : List ℕ) → is_path name ≡ true → (c : Candidate) → AnswersAt s scope name c
      → tried s scope name ≡ Ok c
  pub written : (r : List ℕ) → Bytes s → Bytes r → (x : Recs) → resolving s r ≡ records x → raw_of (encode x) ≡ Some (raws_of x)
  pub listed : (type bs : List ℕ) (m : Message) (t : Tree) → records_of (walking s) s type bs ≡ under m t
      → Encoded bs bs t × Knows (walking s) s m t
  pub not-found-only : (r scope : List ℕ) (m : Message) (p : Part) → p.extension ≡ true → is_path (text r p.name) ≡ true
      → (l : Lack) → step_of (walking s) s r scope m p ≡ Err l → why_of l ≡ ExtensionNotFound
      → (q : Path) → Among q (candidates scope (text r p.name)) → Undeclared s q
  pub not-found-whenever : (r scope : List ℕ) (m : Message) (p : Part) → p.extension ≡ true
      → ((q : Path) → Among q (candidates scope (text r p.name)) → Undeclared s q)
      → step_of (walking s) s r scope m p ≡ Err (NoExtension ExtensionNotFound)
  -- 02, [9]: the two positions "belong to the promise in demands 1 and 2 from here on"
  pub positioned : (r before after : List ℕ) (a : Answer) → Answered (resolve_bytes s r) before after a → Positioned s r a
  pub first-refused : (r before after : List ℕ) (a : Answer) → Answered (resolve_bytes s r) before after a → OptionRefused s r
      → FirstRefused s r a
  pub part-refused : (r before after : List ℕ) (a : Answer) → Answered (resolve_bytes s r) before after a → OptionRefused s r
      → PartRefused s r a
  pub query-placed : (type q bs before after : List ℕ) (a : Answer) → Answered (query s type q bs) before after a
      → QueryPlaced s type q bs a
