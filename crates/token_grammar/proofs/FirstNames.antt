-- Whether the first token is a name, and may lead a statement.
use Rattle.std.proofs.Common.{◌≡◌, ◌∙◌, Bool, true, false, cond, not, ◌&&◌, ◌||◌, List, ℕ, ◌∷◌, length, Ok, Err, refl, sym, ap, subst}
use Rattle.std.specs.Bool.{Decides}
use Rattle.msc_base.specs.declared.place.Place.{Place}
use Rattle.msc_base.specs.Names.{IsName}
use Rattle.msc_tokens.specs.declared.token.Token.{Token}
use Rattle.token_grammar.specs.Classes.{is_name, is_one_of}
use Rattle.token_grammar.specs.Languages.{Read, refused, ◌>>=◌, names, word_at}
use Rattle.token_grammar.specs.Parts.{other_leads}
use Rattle.token_grammar.specs.PartReaders.{lead_at, placed_name_at}
use Rattle.token_grammar.proofs.Classes.{name_decides}

-- what is read of the first token, by whether it is a name
abbrev by_name : Token → List Token → Bool → Read Token
by_name t rest n = cond ((n && true) || false) (Ok (t, rest)) (Err (refused (length (t ∷ rest))))

none_named : (t : Token) (rest : List Token) (n : Bool) → Decides n (IsName t.bytes) → (IsName t.bytes → ⊥) → by_name t rest n ≡ Err (refused (length (t ∷ rest)))
none_named t rest true d free = absurd (free (d.0 refl))
none_named t rest false d free = refl

pub first_name : (ts : List Token) (t : Token) (rest : List Token) → ts ≡ t ∷ rest → IsName t.bytes → word_at names ts ≡ Ok (t, rest)
first_name ts t rest e named =
    subst (λ (xs : List Token). word_at names xs ≡ Ok (t, rest)) (sym e) (ap (by_name t rest) ((name_decides t.bytes).1 named))

pub no_first_name : (ts : List Token) (t : Token) (rest : List Token) → ts ≡ t ∷ rest → (IsName t.bytes → ⊥) → word_at names ts ≡ Err (refused (length ts))
no_first_name ts t rest e free =
    subst (λ (xs : List Token). word_at names xs ≡ Err (refused (length xs))) (sym e) (none_named t rest (is_name t.bytes) (name_decides t.bytes) free)

-- what is read of the first token, by whether it is a name, and whether it is another lead
abbrev by_tests : Token → List Token → Bool → Bool → Read (List ℕ × Place)
by_tests t rest n o = (let r : Read Token = cond ((n && not o) || false) (Ok (t, rest)) (Err (refused (length (t ∷ rest)))) in r) >>= λ x. Ok ((x.0.bytes, x.0.place), x.1)

none_by : (t : Token) (rest : List Token) (n : Bool) → by_tests t rest n true ≡ Err (refused (length (t ∷ rest)))
none_by t rest true = refl
none_by t rest false = refl

pub other_lead : (ts : List Token) (t : Token) (rest : List Token) → ts ≡ t ∷ rest → is_one_of other_leads t.bytes ≡ true → lead_at ts ≡ Err (refused (length ts))
other_lead ts t rest e other =
    subst (λ (xs : List Token). lead_at xs ≡ Err (refused (length xs))) (sym e)
    (ap (by_tests t rest (is_name t.bytes)) other ∙ none_by t rest (is_name t.bytes))

pub no_other_lead : (ts : List Token) (t : Token) (rest : List Token) → ts ≡ t ∷ rest → is_one_of other_leads t.bytes ≡ false → lead_at ts ≡ placed_name_at ts
no_other_lead ts t rest e other =
    subst (λ (xs : List Token). lead_at xs ≡ placed_name_at xs) (sym e) (ap (by_tests t rest (is_name t.bytes)) other)
