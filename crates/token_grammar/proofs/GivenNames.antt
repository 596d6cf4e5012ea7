-- What a reader of names gives is a name.
use Rattle.std.proofs.Common.{◌≡◌, Bool, true, false, cond, ◌&&◌, ◌||◌, List, [], ◌∷◌, length, Result, Ok, Err, IfOk, refl, subst}
use Rattle.std.specs.Bool.{Decides}
use Rattle.msc_base.specs.Names.{IsName}
use Rattle.msc_tokens.specs.declared.token.Token.{Token}
use Rattle.token_grammar.specs.Answers.{Gives}
use Rattle.token_grammar.specs.Classes.{is_name}
use Rattle.token_grammar.specs.Languages.{Read, refused, names, word_at}
use Rattle.token_grammar.specs.declared.readers.ReadFault.{ReadFault}
use Rattle.token_grammar.proofs.Classes.{name_decides}

-- what is read of the first token, by whether it is a name
abbrev by_name : Token → List Token → Bool → Read Token
by_name t rest n = cond ((n && true) || false) (Ok (t, rest)) (Err (refused (length (t ∷ rest))))

named_when : (t : Token) (rest : List Token) (n : Bool) (y : Token × List Token) → Decides n (IsName t.bytes) → by_name t rest n ≡ Ok y → IsName y.0.bytes
named_when t rest true y d e = let q : (t, rest) ≡ y = cc in subst (λ (p : Token × List Token). IsName p.0.bytes) q (d.0 refl)
named_when t rest false y d e = cc

read_name : (ts : List Token) (y : Token × List Token) → word_at names ts ≡ Ok y → IsName y.0.bytes
read_name [] y e = cc
read_name (t ∷ ts) y e = named_when t ts (is_name t.bytes) y (name_decides t.bytes) e

-- what a reader of names gives is one
pub given_name : {X : Type 0} → (f : X → Token × List Token) (ts : List Token) (r : Result X ReadFault) → Gives f r (word_at names ts) → IfOk r (λ x. IsName (f x).0.bytes)
given_name f ts (Ok x) q = read_name ts (f x) q
given_name f ts (Err e) q = tt
