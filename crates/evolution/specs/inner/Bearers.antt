-- What is amiss with a declaration, as code has it: what bears the name, and the name. What is asked of the sheet s, whether it is clean or
-- whether the newer t contains it, is a value.
--
--           DeclaredLies s d <-> name, extendee and type path of the declaration lie in the sheet
--             BearerLies s b <-> so does what bears a name
--              number_for m d ==  the number that d declares for the message m
--             on_declared f x ==  what f makes of a declaration, where there is one
--               fields_at s p ==  the fields of a message whose body is p
--             rest_flaw s k b ==  what is not clean about its members, or its extendee
--            own_flaw s n k b ==  what is not clean about the k-th declaration, of the full name n, its numbers aside
--         name_loss t n g w k ==  the reason w, where the newer has nothing of the kind g under that name
--            own_loss t n k b ==  what of it the newer has not kept, its numbers aside
--       number_reason q s t k ==  the reason that a number gives
--      own_reason q s t n k b ==  that of the declaration itself
--  numbers_reason q s t n k b ==  the first that its numbers give
--   bearer_reason q s t n k b ==  the first of both
--           reason_of q s t k ==  that of a declaration as the list of all has it
--          first_reason q s t ==  the first of all
--               why_not q s t ==  that, of a sheet that is short enough
--
-- Assumes nothing.
use Rattle.std.specs.Prelude.{List, ℕ, ltb, length, Some, None, Option}
use Rattle.basis.specs.First.{only_if}
use Rattle.limits.specs.Figures.{most_sheet}
use Rattle.field.specs.declared.Span.{Span}
use Rattle.field.specs.Leaf.{span, text, Lies}
use Rattle.field.specs.Walk.{walk}
use Rattle.sheet.specs.declared.declaration.Declaration.{Declaration}
use Rattle.sheet.specs.Table.{message_tag, enum_tag, field_tag, value_tag}
use Rattle.sheet.specs.Tree.{items_in}
use Rattle.sheet.specs.Members.{fields_of}
use Rattle.names.specs.Names.{Named, any_kind, every_declared}
use Rattle.names.specs.Numbers.{Number}
use Rattle.names.specs.Clean.{names_one}
use Rattle.names.specs.Contained.{is_in}
use Rattle.reasons.specs.declared.Why.{Why}
use Rattle.reasons.specs.declared.Why.TheVariants as why
use Rattle.reasons.specs.declared.Reason.{Reason}
use Rattle.reasons.specs.Reasons.{also, or_no, reasons, reasons_from, member_flaws, number_flaw, flaw_of, number_loss, loss_of}
use Rattle.reasons.specs.inner.Members.{members_in}
use Rattle.roster.specs.declared.Bearer.{Bearer}
use Rattle.roster.specs.declared.Bearer.TheVariants.{Message, Enum, Extension}
use Rattle.evolution.specs.declared.first.Question.{Question}
use Rattle.evolution.specs.declared.first.Question.TheVariants.{Clean, Contained}

pub record DeclaredLies (s : List ℕ) (d : Declaration) : Type 0 where
  pub name : Lies d.name s
  pub extendee : Lies d.extendee s
  pub path : Lies d.shape.path s

pub data BearerLies (s : List ℕ) : Bearer → Type 0 where
  message-lies : {p : Span} → Lies p s → BearerLies s (Message p)
  enum_lies : {p : Span} → Lies p s → BearerLies s (Enum p)
  extension-lies : {d : Declaration} → DeclaredLies s d → BearerLies s (Extension d)

abbrev pub number_for : (message : List ℕ) → Declaration → Number
number_for m d = record { for = m; by = d }

abbrev pub on_declared : (Declaration → Option Reason) → Option Declaration → Option Reason
on_declared f None = None
on_declared f (Some d) = f d

abbrev pub fields_at : (s : List ℕ) → Span → List Declaration
fields_at s p = fields_of (items_in 0 s (walk s p.from p.to))

-- ---- clean
abbrev pub rest_flaw : (s : List ℕ) (index : ℕ) → Bearer → Option Reason
rest_flaw s k (Message p) = member_flaws s why.FieldShared k (members_in field_tag s (walk s p.from p.to))
rest_flaw s k (Enum p) = member_flaws s why.ValueShared k (members_in value_tag s (walk s p.from p.to))
rest_flaw s k (Extension d) = or_no (names_one s message_tag (text s d.extendee)) why.ExtendeeUnclear k d.extendee

unfoldable pub own_flaw : (s name : List ℕ) (index : ℕ) → Bearer → Option Reason
own_flaw s n k b = also (or_no (names_one s any_kind n) why.NameShared k (span 0 0)) (rest_flaw s k b)

-- ---- contained
unfoldable pub name_loss : (t name : List ℕ) (kind : ℕ) → Why → (index : ℕ) → Option Reason
name_loss t n g w k = or_no (is_in t g n) w k (span 0 0)

unfoldable pub own_loss : (t name : List ℕ) (index : ℕ) → Bearer → Option Reason
own_loss t n k (Message p) = name_loss t n message_tag why.MessageLost k
own_loss t n k (Enum p) = name_loss t n enum_tag why.EnumLost k
own_loss t n k (Extension d) = None

-- ---- either
abbrev pub number_reason : Question → (s t : List ℕ) (index : ℕ) → Number → Option Reason
number_reason Clean s t k x = number_flaw s k x
number_reason Contained s t k x = number_loss s t k x

abbrev pub own_reason : Question → (s t name : List ℕ) (index : ℕ) → Bearer → Option Reason
own_reason Clean s t n k b = own_flaw s n k b
own_reason Contained s t n k b = own_loss t n k b

abbrev pub numbers_reason : Question → (s t name : List ℕ) (index : ℕ) → Bearer → Option Reason
numbers_reason q s t n k (Message p) = reasons (λ d. number_reason q s t k (number_for n d)) (fields_at s p)
numbers_reason q s t n k (Enum p) = None
numbers_reason q s t n k (Extension d) = number_reason q s t k (number_for (text s d.extendee) d)

unfoldable pub bearer_reason : Question → (s t name : List ℕ) (index : ℕ) → Bearer → Option Reason
bearer_reason q s t n k b = also (own_reason q s t n k b) (numbers_reason q s t n k b)

abbrev pub reason_of : Question → (s t : List ℕ) (index : ℕ) → Named → Option Reason
reason_of Clean s t k b = flaw_of s k b
reason_of Contained s t k b = loss_of s t k b

abbrev pub first_reason : Question → (s t : List ℕ) → Option Reason
first_reason q s t = reasons_from (reason_of q s t) 0 (every_declared s)

unfoldable pub why_not : Question → (s t : List ℕ) → Option Reason
why_not q s t = only_if (ltb most_sheet (length s)) None (first_reason q s t)
