-- How a document is headed, and how instances, messages and timers are declared (Z.120, clauses 3, 4.1, 4.2 and 7.4).
use Rattle.std.specs.Prelude.{ℕ, List, [], ◌∷◌, ◌++◌, Option, Some, None, codes}
use Rattle.msc_base.specs.declared.place.Place.{Place}
use Rattle.msc_tree.specs.declared.chart.Decl.{Decl}
use Rattle.msc_tree.specs.declared.chart.Heading.{Heading}
use Rattle.token_grammar.specs.Languages.{just}
use Rattle.token_grammar.specs.Grammars.{Grammar, seq, or, read_as, tail, optional, behind}
use Rattle.token_grammar.specs.Parts.{name, placed_name, ending, kept, all_or_none, placed, separated, name_list}
use Rattle.msc_events.specs.declared.head_parts.Heads.{Heads}

-- the heading of a document: "mscdocument" name [ "related" "to" name ] end
abbrev pub heading : Grammar Heading
heading = behind (just (codes "mscdocument")) (read_as (λ p. record { name = p.0; related = p.1.0 })
    (seq name (optional kept (behind (just (codes "related")) (behind (just (codes "to")) name)) ending)))

-- ---- declarations of instances

abbrev pub kind_of : List ℕ × Option (List ℕ) → List (List ℕ)
kind_of (first, None) = first ∷ []
kind_of (first, Some second) = first ∷ second ∷ []

-- name [ name ]
abbrev pub kind : Grammar (List (List ℕ))
kind = read_as kind_of (tail name name)

-- "decomposed" "as" name, with its place
abbrev pub refinement : Grammar (Place × List ℕ)
refinement = placed (just (codes "decomposed")) (behind (just (codes "as")) name)

-- the declaration of an instance whose name stands at a place
abbrev pub decl_of : List ℕ × Place → List (List ℕ) → Option (Place × List ℕ) → Decl
decl_of at kind None = record { name = at.0; kind = kind; refined = None; place = at.1 }
decl_of at kind (Some part) = record { name = at.0; kind = kind; refined = Some part.1; place = part.0 }

-- decl = name [ ":" name [ name ] ] [ "decomposed" "as" name ]
abbrev pub decl : Grammar Decl
decl = read_as (λ p. decl_of p.0.0 (all_or_none p.0.1) p.1) (tail (tail placed_name (behind (just (codes ":")) kind)) refinement)

-- decl { "," decl }
abbrev pub decl_list : Grammar (List Decl)
decl_list = separated (codes ",") decl

-- behind the instance's name and a colon: "instance" [ name [ name ] ] [ "decomposed" "as" name ] end
abbrev pub declaration : Grammar (List (List ℕ) × Option (Place × List ℕ))
declaration = behind (just (codes "instance")) (read_as (λ p. (p.0, p.1.0)) (optional all_or_none kind (optional kept refinement ending)))

-- ---- the heads of a chart

-- what one head declares
pub data Head : Type 0 where
  of_decls : List Decl → Head
  of_messages : List (List ℕ) → Head
  of_timers : List (List ℕ) → Head

-- a list behind a word, and the end
abbrev pub line : {A : Type 0} → List ℕ → Grammar A → Grammar A
line text list = read_as (λ p. p.0) (behind (just text) (seq list ending))

-- head = "inst" decl { "," decl } end | "msg" names end | "timer" names end
abbrev pub head : Grammar Head
head = or (read_as of_decls (line (codes "inst") decl_list)) (or (read_as of_messages (line (codes "msg") name_list)) (read_as of_timers (line (codes "timer") name_list)))

-- what is declared, with one head more
abbrev pub with_head : Heads → Head → Heads
with_head prefix (of_decls list) = record { decls = prefix.decls ++ list; messages = prefix.messages; timers = prefix.timers }
with_head prefix (of_messages list) = record { decls = prefix.decls; messages = prefix.messages ++ list; timers = prefix.timers }
with_head prefix (of_timers list) = record { decls = prefix.decls; messages = prefix.messages; timers = prefix.timers ++ list }

abbrev pub with_heads : Heads → List Head → Heads
with_heads prefix [] = prefix
with_heads prefix (one ∷ rest) = with_heads (with_head prefix one) rest

-- what the heads of a chart declare
abbrev pub declared_by : List Head → Heads
declared_by list = with_heads (record { decls = []; messages = []; timers = [] }) list
