use Rattle.words.specs.Scan.{keyword_of}
use Rattle.words.proofs.scan.keyword_of.Goals as goal

pub returns : goal.returns
unfolding keyword_of
returns c = c.listed_in.ensures
