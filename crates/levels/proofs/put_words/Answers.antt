-- `levels::put_words` meets its contract, by its loop's invariant and laws.
-- Assumes nothing.
use Rattle.levels.proofs.StackLaws.{words_laws}
use Rattle.levels.proofs.put_words.Goals as goal

pub loop-i-preserved : goal.loop-i-preserved
loop-i-preserved c = search words_laws
