-- The words and marks of forms that aren't taken.
use Rattle.std.specs.Prelude.{ℕ, List, [], ◌∷◌, Option, Some, None, codes, if◌then◌else◌}
use Rattle.msc_base.specs.declared.place.Place.{Place}
use Rattle.msc_tokens.specs.declared.token.Token.{Token}
use Rattle.token_grammar.specs.Classes.{is_one_of}
use Rattle.msc_rules.specs.declared.rule.Form.{Form}
use Rattle.msc_rules.specs.declared.rule.Form.TheVariants.{Guard, DataForm, TimeForm, Method, Qualifier, Inheritance, GateForm, ExcForm}
use Rattle.token_grammar.specs.declared.fault.ParseFault.{ParseFault}
use Rattle.token_grammar.specs.declared.fault.ParseFault.TheVariants.{Syntax, Unsupported}

abbrev pub guard_texts : List (List ℕ)
guard_texts = codes "when" ∷ codes "otherwise" ∷ []

abbrev pub data_texts : List (List ℕ)
data_texts = codes "language" ∷ codes "data" ∷ codes "variables" ∷ codes "def" ∷ codes "undef" ∷ codes ":=" ∷ codes "=" ∷ []

abbrev pub time_texts : List (List ℕ)
time_texts = codes "time" ∷ codes "@" ∷ codes "[" ∷ codes "]" ∷ codes "&" ∷ []

abbrev pub method_texts : List (List ℕ)
method_texts = codes "call" ∷ codes "receive" ∷ codes "replyout" ∷ codes "replyin" ∷ codes "method" ∷ codes "endmethod"
    ∷ codes "suspension" ∷ codes "endsuspension" ∷ []

abbrev pub qualifier_texts : List (List ℕ)
qualifier_texts = codes "<<" ∷ codes ">>" ∷ []

abbrev pub inheritance_texts : List (List ℕ)
inheritance_texts = codes "inherits" ∷ codes "virtual" ∷ codes "redefined" ∷ codes "finalized" ∷ codes "subst" ∷ codes "using" ∷ []

abbrev pub gate_texts : List (List ℕ)
gate_texts = codes "gate" ∷ []

abbrev pub exc_texts : List (List ℕ)
exc_texts = codes "exc" ∷ []

-- the form of which these bytes are a word or mark
abbrev pub form_of : List ℕ → Option Form
form_of bytes =
    if is_one_of guard_texts bytes then Some Guard
    else if is_one_of data_texts bytes then Some DataForm
    else if is_one_of time_texts bytes then Some TimeForm
    else if is_one_of method_texts bytes then Some Method
    else if is_one_of qualifier_texts bytes then Some Qualifier
    else if is_one_of inheritance_texts bytes then Some Inheritance
    else if is_one_of gate_texts bytes then Some GateForm
    else if is_one_of exc_texts bytes then Some ExcForm
    else None

abbrev pub fault_by : Option Form → Place → ParseFault
fault_by None at = Syntax at
fault_by (Some form) at = Unsupported form at

-- the refusal of the first of these tokens; where none is left, of the text's end
abbrev pub fault_at : List Token → Place → ParseFault
fault_at [] end = Syntax end
fault_at (token ∷ rest) end = fault_by (form_of token.bytes) token.place
