-- `extensions::try_candidates` meets its contract.
-- Assumes nothing.
use Rattle.candidates.specs.Candidates.{candidates}
use Rattle.search.specs.Lookup.{tried}
use Rattle.extensions.proofs.ExtensionLaws.{Trying}
use Rattle.extensions.proofs.try_candidates.Given as goal

abbrev pub invariant-loop-i : goal.invariant-loop-i
invariant-loop-i l = Trying (tried l.s l.scope l.path) l.s (candidates l.scope l.path) l.initial.room l.room l.i
