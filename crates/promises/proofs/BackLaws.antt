-- What a request writes reads back: by Encoding as these records, and under the same sheet, where that declares each number once, as rows
-- that hold what they hold. The statements stand at the end.
-- Assumes nothing.
use Rattle.std.specs.Prelude.{◌≡◌, true, ◌&&◌, List, ℕ, ◌≤◌, length, Some}
use Rattle.basis.proofs.Kit.{arith}
use mathlib.Core.Bool.{and-eq-true_iff}
use borrow.Author.Tests.{le-leb}
use Rattle.limits.specs.Figures.{most_levels, most_option_bytes}
use Rattle.reply.specs.Outcome.{give}
use Rattle.octets.proofs.Bytes.{Bytes}
use Rattle.path.specs.Path.{is_rel_path, is_rel_or_empty}
use Rattle.field.specs.Leaf.{text}
use Rattle.sheetform.specs.Form.{judge_sheet}
use Rattle.request.specs.Request.{request_of}
use Rattle.requestform.specs.Form.{judge_request, judge_options_type}
use Rattle.requestform.specs.Fine.{good_options}
use Rattle.requestform.proofs.FineLaws.{fine-good}
use Rattle.records.specs.Records.{Recs, nil, number, bytes, message, encode}
use Rattle.records.specs.Raw.{raw_of, raws_of, Proper}
use Rattle.records.proofs.ReadBack.{read_back}
use Rattle.lookups.specs.Lookups.{Message, walking}
use Rattle.options.specs.Steps.{records}
use Rattle.options.specs.Resolve.{resolving}
use Rattle.entries.specs.Tree.{Tree, rows, words_of}
use Rattle.entries.specs.Reading.{under, records_of}
use Rattle.payload.specs.Payload.{judge_bytes}
use Rattle.listing.specs.Listing.{judge_inputs, listing_by, listing}
use Rattle.readback.specs.Seen.{seen, nested}
use Rattle.readback.specs.Once.{Once}
use Rattle.readback.proofs.OwnBytes.{own-bytes, own-rows}
use Rattle.readback.proofs.UnderLaws.{reading-under}
use Rattle.promises.specs.Levels.{deepest}
use Rattle.promises.specs.Back.{TypedAt, ListedBack}
use Rattle.promises.proofs.Bounds.{resolve-few, resolved-sheet, resolved-fine, resolved-steps}
use Rattle.promises.proofs.Levels.{resolve-levels}
use Rattle.promises.proofs.SizedLaws.{request-sized}
use Rattle.promises.proofs.Declarations.{walking-steady}
use Rattle.promises.proofs.WrittenLaws.{WrittenAt, steps-written}
use Rattle.reply.specs.Verdicts.{fine}

pub nested-few : (x : Recs) → nested x ≤ deepest x
nested-few nil = omega arith
nested-few (number n t v r) = omega (arith, nested-few r)
nested-few (bytes n t b r) = omega (arith, nested-few r)
nested-few (message n i r) = omega (arith, nested-few i, nested-few r)

-- ---- a listing whose inputs are fine
module _ (s type bs : List ℕ) (sheet : judge_sheet s ≡ fine) (name : is_rel_path type ≡ true) (few : length bs ≤ most_option_bytes) where
  inputs-fine : judge_inputs (judge_sheet s) type bs ≡ fine
  unfolding judge_inputs judge_options_type judge_bytes
  inputs-fine = rw (sheet, name, le-leb (length bs) most_option_bytes few)

  pub listing-is : (m : Message) (t : Tree) → records_of (walking s) s type bs ≡ under m t → listing s type bs ≡ give (words_of (rows 0 t))
  unfolding listing_by
  listing-is m t e = rw (inputs-fine, e)

pub type-fine : (r : List ℕ) → judge_request r ≡ fine → is_rel_path (text r (request_of r).options_type) ≡ true
type-fine r p =
    let q = request_of r in
    let scope = is_rel_or_empty (text r q.scope) in
    let type = is_rel_path (text r q.options_type) in
    ((and-eq-true_iff scope type).0 ((and-eq-true_iff (scope && type) (good_options r q.options)).0 (fine-good r p)).0).1

-- ==== the statements, of a sheet and a request that are bytes
module _ (s r : List ℕ) (octets : Bytes s) (octets' : Bytes r) (x : Recs) (e : resolving s r ≡ records x) where
  abbrev type : List ℕ
  type = text r (request_of r).options_type

  written : WrittenAt (walking s) s type x
  written =
      steps-written (walking s) s r (walking-steady s (resolved-sheet (judge_sheet s) s r x e) octets) (request-sized r octets') x
      (resolved-steps (judge_sheet s) s r x e)

  -- Numbers and types of what is written are those of Encoding,
  pub resolved-proper : Proper x
  resolved-proper = written.written.proper

  -- which reads its bytes as these records;
  pub resolved-reads-back : raw_of (encode x) ≡ Some (raws_of x)
  resolved-reads-back = read_back resolved-proper (omega (arith, resolve-few (judge_sheet s) s r x e))

  -- the sheet types them where it declares each number once,
  module _ (once : Once (walking s) s) where
    pub resolved-typed : TypedAt (walking s) s type x
    resolved-typed = record { place = written.place; found = written.found; typed = written.written.typed once }

    -- and lists their bytes as exactly these records.
    pub resolved-listed : ListedBack s type x
    resolved-listed =
        let few = resolve-few (judge_sheet s) s r x e in
        let fine = resolved-sheet (judge_sheet s) s r x e in
        let path = type-fine r (resolved-fine (judge_sheet s) s r x e) in
        let levels = resolve-levels (judge_sheet s) s r x e in
        let m : Message = record { name = type; place = written.place } in
        let typed = written.written.typed once in
        let read = own-bytes (walking s) s resolved-proper m typed most_levels (omega arith) (omega (arith, nested-few x)) in
        let tree = seen (walking s) s m x 0 in
        record {
          rows = rows 0 tree;
          listed = listing-is s type (encode x) fine path few m tree
              (reading-under (walking s) s type (encode x) written.place written.found tree read);
          same = own-rows (walking s) s resolved-proper m typed;
        }
