-- The first reason why a sheet is not clean, or not contained in another: declarations in the order of the sheet, of each the tests in the
-- order of `clean_at` and `kept_at`.
--
--           reason w k p ==  what is amiss, with the k-th declaration, and where it says so
--                holds r <=> there is no reason against it
--               also r q ==  the first of two reasons
--           or_no b w k p ==  this reason, where b does not hold
--           reasons f xs ==  the first of the reasons that f gives of xs
--     reasons_from f k bs ==  the first of those that f gives of declarations, the k-th first
--            member_why w ==  what is amiss where two fields, or two values, share a name
--   member_flaws s w k ns ==  the first of the names ns that another one of them is too
--           extendee_of w ==  where the extendee of an extension stands
--   path_flaw, number_flaw ==  what is amiss with a type path, or with a number
--           flaw_of s k b ==  what is not clean about the k-th declaration, b
--          clean_reason s ==  the first flaw of the sheet
--              loss_why w ==  what is amiss where the newer has no message, or no enum, of its full name
--     number_loss s t k x ==  whether the newer t has not kept a number of the older s
--         loss_of s t k b ==  what of the k-th declaration of the older, b, the newer has not kept
--    contained_reason s t ==  the first loss
--
-- Assumes nothing.
use Rattle.std.specs.Prelude.{Bool, true, false, List, [], ◌∷◌, ℕ, suc, Option, Some, None}
use Rattle.basis.specs.First.{only_if}
use Rattle.basis.specs.Count.{once}
use Rattle.field.specs.declared.Span.{Span}
use Rattle.field.specs.Leaf.{span, text, is_text}
use Rattle.sheet.specs.declared.declaration.Declaration.{Declaration}
use Rattle.names.specs.Names.{What, message, enumeration, extension, Named, every_declared}
use Rattle.names.specs.Numbers.{Number, numbers_of, every_number}
use Rattle.names.specs.Clean.{clean_name, members_of, same_number, clean_path, clean_extendee}
use Rattle.names.specs.Contained.{kept_name, kept_number}
use Rattle.reasons.specs.declared.Why.{Why}
use Rattle.reasons.specs.declared.Why.TheVariants as why
use Rattle.reasons.specs.declared.Reason.{Reason}

abbrev pub reason : Why → (index : ℕ) → (about : Span) → Reason
reason w k p = record { why = w; index = k; about = p }

abbrev pub holds : Option Reason → Bool
holds None = true
holds (Some w) = false

abbrev pub also : (first second : Option Reason) → Option Reason
also None q = q
also (Some w) q = Some w

abbrev pub or_no : (holds : Bool) → Why → (index : ℕ) → Span → Option Reason
or_no b w k p = only_if b None (Some (reason w k p))

abbrev pub reasons : {A : Type 0} → (A → Option Reason) → List A → Option Reason
reasons f [] = None
reasons f (x ∷ xs) = also (f x) (reasons f xs)

abbrev pub reasons_from : (ℕ → Named → Option Reason) → (index : ℕ) → List Named → Option Reason
reasons_from f k [] = None
reasons_from f k (b ∷ bs) = also (f k b) (reasons_from f (suc k) bs)

-- ---- clean
abbrev pub member_why : What → Why
member_why (message c) = why.FieldShared
member_why (enumeration e) = why.ValueShared
member_why (extension d) = why.NameShared

abbrev pub member_flaws : (s : List ℕ) → Why → (index : ℕ) → List Span → Option Reason
member_flaws s w k ns = reasons (λ n. or_no (once (is_text s (text s n)) ns) w k n) ns

abbrev pub extendee_of : What → Span
extendee_of (message c) = span 0 0
extendee_of (enumeration e) = span 0 0
extendee_of (extension d) = d.extendee

abbrev pub path_flaw : (s : List ℕ) (index : ℕ) → Declaration → Option Reason
path_flaw s k d = or_no (clean_path s d) why.TypeUnclear k d.shape.path

abbrev pub number_flaw : (s : List ℕ) (index : ℕ) → Number → Option Reason
number_flaw s k x = also (or_no (once (same_number x) (every_number s)) why.NumberShared k x.by.name) (path_flaw s k x.by)

abbrev pub flaw_of : (s : List ℕ) (index : ℕ) → Named → Option Reason
flaw_of s k b =
    also (or_no (clean_name s b) why.NameShared k (span 0 0))
    (also (member_flaws s (member_why b.what) k (members_of b.what))
    (also (or_no (clean_extendee s b.what) why.ExtendeeUnclear k (extendee_of b.what))
    (reasons (number_flaw s k) (numbers_of s b))))

abbrev pub clean_reason : (s : List ℕ) → Option Reason
clean_reason s = reasons_from (flaw_of s) 0 (every_declared s)

-- ---- contained
abbrev pub loss_why : What → Why
loss_why (message c) = why.MessageLost
loss_why (enumeration e) = why.EnumLost
loss_why (extension d) = why.NumberChanged

abbrev pub number_loss : (s t : List ℕ) (index : ℕ) → Number → Option Reason
number_loss s t k x = or_no (kept_number s t x) why.NumberChanged k x.by.name

abbrev pub loss_of : (s t : List ℕ) (index : ℕ) → Named → Option Reason
loss_of s t k b =
    also (or_no (kept_name t b.name b.what) (loss_why b.what) k (span 0 0)) (reasons (number_loss s t k) (numbers_of s b))

abbrev pub contained_reason : (older newer : List ℕ) → Option Reason
contained_reason s t = reasons_from (loss_of s t) 0 (every_declared s)
