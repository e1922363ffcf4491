-- Closed cases of outcomes and of the table, which the checker computes: room one short, exact and ample; Absent in no room; what is left.
-- Assumes nothing.
use Rattle.std.specs.Prelude.{◌≡◌, refl, [], ◌∷◌, ◌++◌, map, ℕ}
use Rattle.reply.specs.declared.Refusal.TheVariants.{BadRequest, NoRoom, BuiltinOptionNotFound}
use Rattle.reply.specs.declared.Refusal.TheVariants.{BuiltinOptionPointsToNonSingularField}
use Rattle.reply.specs.declared.Where.{Where}
use Rattle.reply.specs.declared.Where.TheVariants.{Nowhere, Part, Option}
use Rattle.reply.specs.Reply.{refused_for, refused_by, done_with, absent_answer, name}
use Rattle.reply.specs.Outcome.{Outcome, refuse, nothing, give, push, within, answer_of, left_of}

-- two elements in room for one, two and three
room : map (λ (n : ℕ). within {A = ℕ} n (give (7 ∷ 8 ∷ []))) (1 ∷ 2 ∷ 3 ∷ []) ≡ refuse NoRoom ∷ give (7 ∷ 8 ∷ []) ∷ give (7 ∷ 8 ∷ []) ∷ []
room = refl

-- a refusal stays the same refusal, and Absent and no elements need no room
no_room : map (within {A = ℕ} 0) (refuse BadRequest ∷ nothing ∷ give [] ∷ []) ≡ refuse BadRequest ∷ nothing ∷ give [] ∷ []
no_room = refl

answers :
    map (answer_of {A = ℕ}) (refuse BadRequest ∷ nothing ∷ give (7 ∷ 8 ∷ []) ∷ [])
    ≡ refused_by BadRequest ∷ absent_answer ∷ done_with 2 ∷ []
answers = refl

-- elements past the answer stay; a refusal and Absent leave all
left :
    map (λ (o : Outcome ℕ). left_of o (1 ∷ 2 ∷ 3 ∷ [])) (give (7 ∷ 8 ∷ []) ∷ give [] ∷ refuse BadRequest ∷ nothing ∷ [])
    ≡ (7 ∷ 8 ∷ 3 ∷ []) ∷ (1 ∷ 2 ∷ 3 ∷ []) ∷ (1 ∷ 2 ∷ 3 ∷ []) ∷ (1 ∷ 2 ∷ 3 ∷ []) ∷ []
left = refl

-- what is put in front of a refusal is lost with it
in-front : map (push {A = ℕ} (1 ∷ [])) (give (2 ∷ []) ∷ refuse BadRequest ∷ []) ≡ give (1 ∷ 2 ∷ []) ∷ refuse BadRequest ∷ []
in-front = refl

-- one number, told apart by the second word
tens : refused_by BuiltinOptionNotFound ≡ record { reply = 10; second = 0; absent = 0; length = 0; option = 65535; part = 65535 }
tens = refl

tens-second :
    refused_by BuiltinOptionPointsToNonSingularField
    ≡ record { reply = 10; second = 1; absent = 0; length = 0; option = 65535; part = 65535 }
tens-second = refl

-- an option and a part of its name, a part of a name that is no option's; done, Absent and NoRoom have neither
places :
    map (λ (p : Where). refused_for (record { why = BadRequest; place = p })) (Option 3 1 ∷ Part 2 ∷ Nowhere ∷ [])
    ≡ record { reply = 2; second = 0; absent = 0; length = 0; option = 3; part = 1 }
    ∷ record { reply = 2; second = 0; absent = 0; length = 0; option = 65535; part = 2 }
    ∷ record { reply = 2; second = 0; absent = 0; length = 0; option = 65535; part = 65535 }
    ∷ []
places = refl

no-places :
    map (λ (n : ℕ). answer_of {A = ℕ} (within n (give (7 ∷ 8 ∷ [])))) (1 ∷ 2 ∷ []) ++ answer_of {A = ℕ} nothing ∷ []
    ≡ record { reply = 17; second = 0; absent = 0; length = 0; option = 65535; part = 65535 }
    ∷ record { reply = 0; second = 0; absent = 0; length = 2; option = 65535; part = 65535 }
    ∷ record { reply = 0; second = 0; absent = 1; length = 0; option = 65535; part = 65535 }
    ∷ []
no-places = refl

-- `NoRoom` in ASCII
spelling : name NoRoom ≡ 78 ∷ 111 ∷ 82 ∷ 111 ∷ 111 ∷ 109 ∷ []
spelling = refl
