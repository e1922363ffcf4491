-- How deep the records lie that a fine request writes. The statements stand at the end.
-- Assumes nothing.
use Rattle.std.specs.Prelude.{◌≡◌, refl, Bool, true, false, ◌&&◌, List, [], ◌∷◌, ℕ, ◌≤◌, eqb, leb, length}
use Rattle.basis.proofs.Kit.{arith}
use mathlib.Core.Bool.{false≢true, and-eq-true_iff}
use borrow.Author.Tests.{leb-true}
use Rattle.limits.specs.Figures.{most_parts}
use Rattle.path.specs.Path.{is_rel_path, is_rel_or_empty}
use Rattle.field.specs.Leaf.{text}
use Rattle.request.specs.Request.{RequestOption, request_of}
use Rattle.constantform.specs.Fine.{count_of, good_constants}
use Rattle.optionform.specs.Fine.{good_parts, good_option}
use Rattle.requestform.specs.Form.{judge_request}
use Rattle.requestform.specs.Fine.{good_options}
use Rattle.requestform.proofs.FineLaws.{fine-good}
use Rattle.records.specs.Records.{Recs}
use Rattle.lookups.specs.Lookups.{Lookups, walking}
use Rattle.options.specs.Steps.{records, steps_of}
use Rattle.options.specs.Resolve.{resolving_by}
use Rattle.promises.specs.Levels.{deepest}
use Rattle.promises.proofs.Bounds.{longest, records-small, resolved-fine, resolved-steps}
use Rattle.reply.specs.Verdicts.{Verdict, fine}

parts-few : (r : List ℕ) (o : RequestOption) → good_option r o ≡ true → length o.parts ≤ most_parts
parts-few r o = go (leb 1 n) (leb n most_parts) refl (good_parts r o.parts) (eqb (count_of o.constant) 1) (good_constants r o.constant)
  where
    n : ℕ
    n = length o.parts

    go : (a b : Bool) → leb (length o.parts) most_parts ≡ b → (c d f : Bool) → (a && b && c && d && f) ≡ true
        → length o.parts ≤ most_parts
    go true true l c d f h = leb-true (length o.parts) most_parts l
    go true false l c d f h = absurd (false≢true h)
    go false b l c d f h = absurd (false≢true h)

longest-few : (r : List ℕ) (os : List RequestOption) → good_options r os ≡ true → longest os ≤ most_parts
longest-few r [] h = omega arith
longest-few r (o ∷ os) h =
    let both = (and-eq-true_iff (good_option r o) (good_options r os)).0 h in
    omega (arith, parts-few r o both.0, longest-few r os both.1)

fine-longest : (r : List ℕ) → judge_request r ≡ fine → longest (request_of r).options ≤ most_parts
fine-longest r p =
    let q = request_of r in
    let heading = is_rel_or_empty (text r q.scope) && is_rel_path (text r q.options_type) in
    longest-few r q.options ((and-eq-true_iff heading (good_options r q.options)).0 (fine-good r p)).1

-- ==== the statements
-- The records of a fine request have at most 31 levels: none lies deeper than level 30, the outermost being at level 0.
pub levels-few : (L : Lookups) (s r : List ℕ) → judge_request r ≡ fine → (x : Recs) → steps_of L s r ≡ records x → deepest x ≤ 31
levels-few L s r p x e = omega (arith, (records-small L s r x e).levels, fine-longest r p)

-- So it is of every call of `resolve` and of `resolve_tested`, however the sheet is judged.
pub resolve-levels : (v : Verdict) (s r : List ℕ) (x : Recs) → resolving_by v s r ≡ records x → deepest x ≤ 31
resolve-levels v s r x e = levels-few (walking s) s r (resolved-fine v s r x e) x (resolved-steps v s r x e)
