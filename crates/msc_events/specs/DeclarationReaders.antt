-- Readers of the productions of declarations.
use Rattle.std.specs.Prelude.{ℕ, List, [], ◌∷◌, ◌++◌, Option, Ok, length, codes}
use Rattle.msc_base.specs.declared.place.Place.{Place}
use Rattle.msc_tokens.specs.declared.token.Token.{Token}
use Rattle.msc_tree.specs.declared.chart.Decl.{Decl}
use Rattle.msc_tree.specs.declared.chart.Heading.{Heading}
use Rattle.token_grammar.specs.Classes.{exactly}
use Rattle.token_grammar.specs.Languages.{Set, Read, just, names, ◌>>=◌, each_at, seq_at, either_at, map_at, tail_at, optional_at, behind_at}
use Rattle.token_grammar.specs.Parts.{kept, all_or_none}
use Rattle.token_grammar.specs.PartReaders.{name_at, placed_name_at, placed_at, ending_at, separated_at, more_at, name_list_at}
use Rattle.msc_events.specs.Declarations.{kind_of, decl_of, Head, of_decls, of_messages, of_timers, with_head, with_heads, declared_by}
use Rattle.msc_events.specs.declared.head_parts.Heads.{Heads}

abbrev pub related_at : List Token → Read (Option (List ℕ))
related_at = optional_at (just (codes "related")) kept (behind_at (just (codes "related")) (behind_at (just (codes "to")) name_at))

abbrev pub heading_at : List Token → Read Heading
heading_at = behind_at (just (codes "mscdocument")) (map_at (λ p. record { name = p.0; related = p.1.0 }) (seq_at name_at (seq_at related_at ending_at)))

abbrev pub kind_at : List Token → Read (List (List ℕ))
kind_at = map_at kind_of (tail_at names name_at name_at)

-- a kind, where there is one
abbrev pub some_kind_at : List Token → Read (List (List ℕ))
some_kind_at = optional_at names all_or_none kind_at

-- a kind behind a colon, where there is one
abbrev pub colon_kind_at : List Token → Read (List (List ℕ))
colon_kind_at = optional_at (just (codes ":")) all_or_none (behind_at (just (codes ":")) kind_at)

abbrev pub refinement_at : List Token → Read (Place × List ℕ)
refinement_at = placed_at (just (codes "decomposed")) (behind_at (just (codes "as")) name_at)

-- a refinement, where there is one
abbrev pub some_refinement_at : List Token → Read (Option (Place × List ℕ))
some_refinement_at = optional_at (just (codes "decomposed")) kept refinement_at

abbrev pub decl_at : List Token → Read Decl
decl_at = map_at (λ p. decl_of p.0 p.1.0 p.1.1) (seq_at placed_name_at (seq_at colon_kind_at some_refinement_at))

abbrev pub comma_decl_at : List Token → Read Decl
comma_decl_at = behind_at (just (codes ",")) decl_at

abbrev pub more_decls_at : List Decl → ℕ → List Token → Read (List Decl)
more_decls_at = more_at (just (codes ",")) comma_decl_at

abbrev pub decl_list_at : List Token → Read (List Decl)
decl_list_at = separated_at (codes ",") decl_at

abbrev pub declaration_at : List Token → Read (List (List ℕ) × Option (Place × List ℕ))
declaration_at = behind_at (just (codes "instance")) (map_at (λ p. (p.0, p.1.0)) (seq_at some_kind_at (seq_at some_refinement_at ending_at)))

-- the declaration of the instance whose name stands at a place
abbrev pub declared_at : List ℕ × Place → List Token → Read Decl
declared_at at = map_at (λ d. decl_of at d.0 d.1) declaration_at

-- ---- the heads of a chart

abbrev pub line_at : {A : Type 0} → List ℕ → (List Token → Read A) → List Token → Read A
line_at text q = map_at (λ p. p.0) (behind_at (just text) (seq_at q ending_at))

-- declarations, or names, appended to those that there are
abbrev pub decls_onto_at : List Decl → List Token → Read (List Decl)
decls_onto_at prefix = map_at (λ l. prefix ++ l) decl_list_at

abbrev pub names_onto_at : List (List ℕ) → List Token → Read (List (List ℕ))
names_onto_at prefix = map_at (λ l. prefix ++ l) name_list_at

abbrev pub head_at : List Token → Read Head
head_at = either_at (just (codes "inst")) (map_at of_decls (line_at (codes "inst") decl_list_at))
    (either_at (just (codes "msg")) (map_at of_messages (line_at (codes "msg") name_list_at)) (map_at of_timers (line_at (codes "timer") name_list_at)))

abbrev pub head_words : Set
head_words = exactly (codes "inst") ∷ exactly (codes "msg") ∷ exactly (codes "timer") ∷ []

-- the declarations, the messages or the timers of one head, behind what was declared
abbrev pub decls_head_at : Heads → List Token → Read Heads
decls_head_at prefix = map_at (λ h. with_head prefix h) (map_at of_decls (line_at (codes "inst") decl_list_at))

abbrev pub messages_head_at : Heads → List Token → Read Heads
messages_head_at prefix = map_at (λ h. with_head prefix h) (map_at of_messages (line_at (codes "msg") name_list_at))

abbrev pub timers_head_at : Heads → List Token → Read Heads
timers_head_at prefix = map_at (λ h. with_head prefix h) (map_at of_timers (line_at (codes "timer") name_list_at))

-- one head, behind what was declared
abbrev pub next_head_at : Heads → List Token → Read Heads
next_head_at prefix = map_at (λ h. with_head prefix h) head_at

-- at most so many heads, behind what was declared
abbrev pub more_heads_at : Heads → ℕ → List Token → Read Heads
more_heads_at prefix k ts = each_at head_words head_at k ts >>= λ x. Ok (with_heads prefix x.0, x.1)

-- what all heads that there are declare
abbrev pub heads_at : List Token → Read Heads
heads_at ts = each_at head_words head_at (length ts) ts >>= λ x. Ok (declared_by x.0, x.1)
