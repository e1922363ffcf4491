-- What these functions promise follows from their laws.
-- Assumes nothing.
use Rattle.std.specs.Prelude.{◌≡◌, Ok, Err}
use Rattle.steps.specs.declared.Reach.TheVariants.{Constant, Inside, Nothing}
use Rattle.records.proofs.EmitsLaws.{hands-on}
use Rattle.options.proofs.settle.PutLaws.{put_inside_laws, put_option_laws}
use Rattle.basis.proofs.Kit.{rules}
use Rattle.options.proofs.by_name.+put_inside_put_option.Goals as goal

pub put_inside-returns-in_err-end : goal.put_inside-returns-in_err-end
put_inside-returns-in_err-end t c = hands-on c.from_residual.ensures.1 (search (rules, put_inside_laws, c.in_err-end.was))

pub put_inside-overflow_sub-end : goal.put_inside-overflow_sub-end
put_inside-overflow_sub-end t c = search (rules, put_inside_laws, c.in_ok-end.was)

pub put_inside-enclose-requires : goal.put_inside-enclose-requires
put_inside-enclose-requires t c = search (rules, put_inside_laws, c.in_ok-end.was)

pub put_inside-returns : goal.put_inside-returns
put_inside-returns t c = search (rules, put_inside_laws, c.in_ok-end.was)

pub put_option-slice_bounds-put_inside-count : goal.put_option-slice_bounds-put_inside-count
put_option-slice_bounds-put_inside-count t c =
    let is : c.reach_of.result ≡ Ok (Inside c.in-Ok-Inside.shape c.in-Ok-Inside.inner c.in-Ok-Inside.rest) = cc in
    search (rules, put_option_laws, is)

pub put_option-slice_bounds-put_inside-start : goal.put_option-slice_bounds-put_inside-start
put_option-slice_bounds-put_inside-start t c =
    let is : c.reach_of.result ≡ Ok (Inside c.in-Ok-Inside.shape c.in-Ok-Inside.inner c.in-Ok-Inside.rest) = cc in
    search (rules, put_option_laws, is)

pub put_option-slice_bounds-put_inside-end : goal.put_option-slice_bounds-put_inside-end
put_option-slice_bounds-put_inside-end t c =
    let is : c.reach_of.result ≡ Ok (Inside c.in-Ok-Inside.shape c.in-Ok-Inside.inner c.in-Ok-Inside.rest) = cc in
    search (rules, put_option_laws, is)

pub put_option-put_inside-requires : goal.put_option-put_inside-requires
put_option-put_inside-requires t c =
    let is : c.reach_of.result ≡ Ok (Inside c.in-Ok-Inside.shape c.in-Ok-Inside.inner c.in-Ok-Inside.rest) = cc in
    search (rules, put_option_laws, is)

pub put_option-put_constant-requires : goal.put_option-put_constant-requires
put_option-put_constant-requires t c =
    let is : c.reach_of.result ≡ Ok (Constant c.in-Ok-Constant.shape c.in-Ok-Constant.rest) = cc in
    search (rules, put_option_laws, is)

pub put_option-returns-in-Err : goal.put_option-returns-in-Err
put_option-returns-in-Err t c =
    let is : c.reach_of.result ≡ Err c.in-Err.why = cc in
    search (rules, put_option_laws, is)

pub put_option-returns-in-Ok-Nothing : goal.put_option-returns-in-Ok-Nothing
put_option-returns-in-Ok-Nothing t c =
    let is : c.reach_of.result ≡ Ok Nothing = cc in
    search (rules, put_option_laws, is)

pub put_option-returns-in-Ok-Constant : goal.put_option-returns-in-Ok-Constant
put_option-returns-in-Ok-Constant t c =
    let is : c.reach_of.result ≡ Ok (Constant c.in-Ok-Constant.shape c.in-Ok-Constant.rest) = cc in
    search (rules, put_option_laws, is)

pub put_option-returns-in-Ok-Inside : goal.put_option-returns-in-Ok-Inside
put_option-returns-in-Ok-Inside t c =
    let is : c.reach_of.result ≡ Ok (Inside c.in-Ok-Inside.shape c.in-Ok-Inside.inner c.in-Ok-Inside.rest) = cc in
    search (rules, put_option_laws, is)
