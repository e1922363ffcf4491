-- What is said of the fields of a container, one after the other: 01, Replies, "the first fault from the front (a container holds its
-- children's faults ..)". A header that is cut and a length that runs past the container are faults of form at that field.
--
--         each bad f w == the first fault of the fields, judged by f tag from to; `bad` where they are cut
--   each_from bad f n w == likewise, by f index tag from to, the first of them having the index n
--
-- Assumes nothing.
use Rattle.std.specs.Prelude.{ℕ, ◌+◌, Err}
use Rattle.reply.specs.declared.Refusal.{Refusal}
use Rattle.reply.specs.Verdicts.{first_fault, Verdict, fine}
use Rattle.field.specs.Walk.{Walk, done, cut, step}

abbrev pub each : (bad : Refusal) (judge : (tag from to : ℕ) → Verdict) → Walk → Verdict
each bad f done = fine
each bad f cut = Err bad
each bad f (step t a e w) = first_fault (f t a e) (each bad f w)

abbrev pub each_from : (bad : Refusal) (judge : (index tag from to : ℕ) → Verdict) (index : ℕ) → Walk → Verdict
each_from bad f n done = fine
each_from bad f n cut = Err bad
each_from bad f n (step t a e w) = first_fault (f n t a e) (each_from bad f (n + 1) w)
