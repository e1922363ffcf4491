-- 01's table of replies: the number and the second word of each refusal, and the answer record; 02's request [9]: where it was refused.
--
--          row w ==  the refusal's row in 01's table: number, second word, name
--       number w ==  the reply's number
--       second w ==  the reply's second word
--         name w ==  the bytes of its name
--       most_name ==  the bytes that a row of the table of names has for the name
--   NameOf n s t <-> t is the name of the refusal that has the number n and the second word s, empty where there is none
--        nowhere ==  the number that stands for a position where there is none
--    positions p ==  the two numbers of a place: the option's position and the part's
--         bare w ==  this refusal, nowhere
--   refused_for c ==  the answer of a refusal, by its cause
--    refused_by w ==  the answer of this refusal, nowhere
--     done_with n ==  the answer of a call that wrote n elements
--   absent_answer ==  the answer Absent
--      decided b ==  the answer of a call that answers yes or no
--
-- Assumes nothing.
use Rattle.std.specs.Prelude.{◌≡◌, Bool, List, [], ℕ}
use Rattle.basis.specs.First.{only_if}
use Prim.Native.String.{String}
use Rattle.octets.specs.Ascii.{ascii}
use Rattle.reply.specs.declared.Refusal.{Refusal}
use Rattle.reply.specs.declared.Refusal.TheVariants as refusal
use Rattle.reply.specs.declared.Where.{Where}
use Rattle.reply.specs.declared.Where.TheVariants.{Nowhere, Part, Option}
use Rattle.reply.specs.declared.Positions.{Positions}
use Rattle.reply.specs.declared.Cause.{Cause}
use Rattle.reply.specs.declared.Answer.{Answer}

-- 01, Replies: the number; the second word, which is 1 for BuiltinOptionPointsToNonSingularField and 0 for every other; the name
abbrev pub row : Refusal → ℕ × ℕ × String
row refusal.BadSheet = (1, 0, "BadSheet")
row refusal.BadRequest = (2, 0, "BadRequest")
row refusal.BeyondLimit = (3, 0, "BeyondLimit")
row refusal.ExtensionNotFound = (4, 0, "ExtensionNotFound")
row refusal.WrongExtensionType = (5, 0, "WrongExtensionType")
row refusal.ExtensionIsNotMessage = (6, 0, "ExtensionIsNotMessage")
row refusal.MessageNotFound = (7, 0, "MessageNotFound")
row refusal.MessageFoundMoreThanOnce = (8, 0, "MessageFoundMoreThanOnce")
row refusal.UnknownFieldName = (9, 0, "UnknownFieldName")
row refusal.BuiltinOptionNotFound = (10, 0, "BuiltinOptionNotFound")
row refusal.BuiltinOptionPointsToNonSingularField = (10, 1, "BuiltinOptionPointsToNonSingularField")
row refusal.MessageFieldRequiresMessageConstant = (11, 0, "MessageFieldRequiresMessageConstant")
row refusal.UnsupportedExtensionType = (12, 0, "UnsupportedExtensionType")
row refusal.UnknownEnumValue = (13, 0, "UnknownEnumValue")
row refusal.ValueRange = (14, 0, "ValueRange")
row refusal.StrLitDecodeError = (15, 0, "StrLitDecodeError")
row refusal.RangeEnd = (16, 0, "RangeEnd")
row refusal.NoRoom = (17, 0, "NoRoom")
row refusal.BadBytes = (18, 0, "BadBytes")
row refusal.WireMismatch = (19, 0, "WireMismatch")

abbrev pub number : Refusal → ℕ
number w = (row w).0

abbrev pub second : Refusal → ℕ
second w = (row w).1

abbrev pub name : Refusal → List ℕ
name w = ascii (row w).2

abbrev pub most_name : ℕ
most_name = 40

pub record NameOf (n s : ℕ) (t : List ℕ) : Type 0 where
  pub is : (w : Refusal) → n ≡ number w → s ≡ second w → t ≡ name w
  pub none : ((w : Refusal) → n ≡ number w → s ≡ second w → ⊥) → t ≡ []

-- 02, [9]: "two more numbers: the option's position and the part's position, both from 0, and 65,535 where there is none (done, NoRoom, a
-- fault of sheet, request or options type)"; a query has no option, and its name has parts [WHERE-1, WHERE-2]
abbrev pub nowhere : ℕ
nowhere = 65535

abbrev pub positions : Where → Positions
positions Nowhere = record { option = nowhere; part = nowhere }
positions (Part j) = record { option = nowhere; part = j }
positions (Option i j) = record { option = i; part = j }

abbrev pub bare : Refusal → Cause
bare w = record { why = w; place = Nowhere }

-- 01, Replies: "Refusals write nothing and return zero length" [REPLY-4]
abbrev pub refused_for : Cause → Answer
refused_for c = record {
  reply = number c.why;
  second = second c.why;
  absent = 0;
  length = 0;
  option = (positions c.place).option;
  part = (positions c.place).part;
}

abbrev pub refused_by : Refusal → Answer
refused_by w = refused_for (bare w)

abbrev pub done_with : ℕ → Answer
done_with n = record { reply = 0; second = 0; absent = 0; length = n; option = nowhere; part = nowhere }

abbrev pub absent_answer : Answer
absent_answer = record { reply = 0; second = 0; absent = 1; length = 0; option = nowhere; part = nowhere }

-- the second word is 1 for yes and 0 for no [REPLY-2]
abbrev pub decided : (holds : Bool) → Answer
decided holds = record { reply = 0; second = only_if holds 1 0; absent = 0; length = 0; option = nowhere; part = nowhere }
