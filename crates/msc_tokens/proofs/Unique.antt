-- A text has one list of tokens, or one first fault, and not both.
use Rattle.std.proofs.Common.{◌≡◌, List, ℕ}
use Rattle.msc_tokens.specs.declared.token.Token.{Token}
use Rattle.msc_tokens.specs.declared.fault.LexFault.{LexFault}
use Rattle.msc_tokens.specs.Places.{first_place, past}
use Rattle.msc_tokens.specs.Spelling.{Spells, HasLexFault}
use Rattle.msc_tokens.proofs.Completeness.{list_of, spells_answer, fault_answer}
use Rattle.msc_tokens.proofs.Answering.{one_list, no_fault, one_fault}

pub one_spelling : (bytes : List ℕ) (a b : List Token) → Spells bytes a → Spells bytes b → a ≡ b
one_spelling bytes a b h k = one_list bytes (list_of b (past first_place bytes)) (spells_answer bytes b k) a h

pub one_first_fault : (bytes : List ℕ) (f g : LexFault) → HasLexFault bytes f → HasLexFault bytes g → f ≡ g
one_first_fault bytes f g h k = one_fault bytes g (fault_answer bytes g k) f h

pub not_both : (bytes : List ℕ) (tokens : List Token) (f : LexFault) → Spells bytes tokens → HasLexFault bytes f → ⊥
not_both bytes tokens f h k = no_fault bytes (list_of tokens (past first_place bytes)) (spells_answer bytes tokens h) f k
