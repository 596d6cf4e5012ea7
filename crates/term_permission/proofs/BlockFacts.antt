-- The union of two blocks.
use Rattle.term_laws.proofs.Unions.{both-union}

pub ruleset blocks = (both-union)
