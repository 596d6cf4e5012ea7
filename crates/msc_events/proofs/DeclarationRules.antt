-- The readers of declarations are exact.
use Rattle.std.proofs.Common.{ℕ, ◌≡◌, ◌++◌, Bool, true, false, cond, List, [], ◌∷◌, Option, Some, None, Ok, Err, refl, codes}
use Rattle.msc_base.specs.declared.place.Place.{Place}
use Rattle.msc_tokens.specs.declared.token.Token.{Token}
use Rattle.msc_tree.specs.declared.chart.Decl.{Decl}
use Rattle.token_grammar.specs.Languages.{Set, among, Read, ◌>>=◌, apart, starts, just, names, seq_at, map_at, tail_at, tail_ends, behind_at}
use Rattle.token_grammar.specs.Classes.{token_of}
use Rattle.token_grammar.specs.Grammars.{Grammar}
use Rattle.token_grammar.specs.Parts.{kept, all_or_none}
use Rattle.token_grammar.specs.PartReaders.{placed_name_at}
use Rattle.token_grammar.proofs.Flats.{rule_by}
use Rattle.token_grammar.proofs.Rules.{Law, Rule, seq_rule, or_rule, as_rule, tail_rule}
use Rattle.token_grammar.proofs.Optionals.{none, mapped, paired, optional_rule, behind_rule}
use Rattle.token_grammar.proofs.PartRules.{law_by, name_rule, placed_name_rule, ending_rule, ends, placed_rule, final, final_apart, both_apart, listed_rule, name_list_rule}
use Rattle.msc_events.specs.Declarations.{heading, kind_of, kind, refinement, decl_of, decl, decl_list, declaration, of_decls, of_messages, of_timers, line, head}
use Rattle.msc_events.specs.DeclarationReaders.{heading_at, kind_at, colon_kind_at, refinement_at, some_refinement_at, decl_at, decl_list_at, declaration_at, line_at, head_at, head_words}

pub heading_rule : (n : ℕ) → Rule (λ m. heading) n (just (codes "mscdocument")) none heading_at
heading_rule n = behind_rule (just (codes "mscdocument")) (codes "mscdocument") refl (as_rule (λ p. record { name = p.0; related = p.1.0 }) none
    (seq_rule (name_rule n) (optional_rule kept (behind_rule (just (codes "related")) (codes "related") refl (behind_rule (just (codes "to")) (codes "to") refl (name_rule n))) (ending_rule n) (λ a. refl) refl) (λ a. refl)) (λ a. refl))

-- ---- one declaration

-- what can't follow a kind; without one, what begins one
abbrev pub after_kind : List (List ℕ) → Set
after_kind [] = just (codes ":")
after_kind (first ∷ []) = names
after_kind (first ∷ second ∷ more) = []

kind_ends : (a : List ℕ × Option (List ℕ)) → after_kind (kind_of a) ≡ tail_ends none names none a
kind_ends (first, None) = refl
kind_ends (first, Some second) = refl

pub kind_rule : (n : ℕ) → Rule (λ m. kind) n names after_kind kind_at
kind_rule n = as_rule kind_of after_kind (tail_rule (name_rule n) (name_rule n) (λ a. refl)) kind_ends

pub refinement_rule : (n : ℕ) → Rule (λ m. refinement) n (just (codes "decomposed")) none refinement_at
refinement_rule n = placed_rule (just (codes "decomposed")) (codes "decomposed") refl (behind_rule (just (codes "as")) (codes "as") refl (name_rule n))

abbrev pub after_parts : List (List ℕ) → Option (List ℕ) → Set
after_parts list None = just (codes "decomposed") ++ after_kind list
after_parts list (Some part) = []

-- what can't follow a declaration
abbrev pub after_decl : Decl → Set
after_decl d = after_parts d.kind d.refined

abbrev Named : Type 0
Named = (List ℕ × Place) × Option (List (List ℕ))

abbrev after_named : Named → Set
after_named = tail_ends none (just (codes ":")) after_kind

named_ends : (a : Named) → after_kind (all_or_none a.1) ≡ after_named a
named_ends (at, None) = refl
named_ends (at, Some []) = refl
named_ends (at, Some (first ∷ [])) = refl
named_ends (at, Some (first ∷ second ∷ more)) = refl

named_free : (a : Named) → apart (just (codes "decomposed")) (after_named a) ≡ true
named_free (at, None) = refl
named_free (at, Some []) = refl
named_free (at, Some (first ∷ [])) = refl
named_free (at, Some (first ∷ second ∷ more)) = refl

abbrev put_together : Named × Option (Place × List ℕ) → Decl
put_together p = decl_of p.0.0 (all_or_none p.0.1) p.1

decl_ends : (a : Named × Option (Place × List ℕ)) → after_decl (put_together a) ≡ tail_ends after_named (just (codes "decomposed")) none a
decl_ends ((at, None), None) = refl
decl_ends ((at, Some []), None) = refl
decl_ends ((at, Some (first ∷ [])), None) = refl
decl_ends ((at, Some (first ∷ second ∷ more)), None) = refl
decl_ends (named, Some part) = refl

-- the parts of a declaration, one by one
abbrev parts_at : List Token → Read Decl
parts_at = map_at put_together (tail_at (just (codes "decomposed")) (tail_at (just (codes ":")) placed_name_at (behind_at (just (codes ":")) kind_at)) refinement_at)

abbrev Parts : Type 0
Parts = (List ℕ × Place) × (List (List ℕ) × Option (Place × List ℕ))

abbrev joined : Read Parts → Read Decl
joined x = mapped (λ (p : Parts). decl_of p.0 p.1.0 p.1.1) x

abbrev with_kind : List ℕ × Place → Read (List (List ℕ) × Option (Place × List ℕ)) → Read Parts
with_kind at x = mapped (λ (l : List (List ℕ) × Option (Place × List ℕ)). (at, l)) x

abbrev with_parts : List ℕ × Place → List (List ℕ) → Read (Option (Place × List ℕ)) → Read Decl
with_parts at list x = joined (with_kind at (mapped (λ (r : Option (Place × List ℕ)). (list, r)) x))

abbrev behind_named : Named × List Token → Read (Named × Option (Place × List ℕ))
behind_named x = cond (starts (just (codes "decomposed")) x.1) (refinement_at x.1 >>= λ y. Ok ((x.0, Some y.0), y.1)) (Ok ((x.0, None), x.1))

last_part : (a : Named) (ts : List Token) → mapped put_together (behind_named (a, ts)) ≡ with_parts a.0 (all_or_none a.1) (some_refinement_at ts)
last_part a ts = pick (starts (just (codes "decomposed")) ts) (refinement_at ts)
  where
    pick : (b : Bool) (x : Read (Place × List ℕ)) → mapped put_together (cond b (x >>= λ y. Ok ((a, Some y.0), y.1)) (Ok ((a, None), ts)))
        ≡ with_parts a.0 (all_or_none a.1) (cond b (mapped (λ r. kept (Some r)) x) (Ok (None, ts)))
    pick false x = refl
    pick true (Ok y) = refl
    pick true (Err e) = refl

same_parts : (ts : List Token) → parts_at ts ≡ decl_at ts
same_parts ts = first (placed_name_at ts)
  where
    second : (at : List ℕ × Place) (us : List Token) (b : Bool) (x : Read (List (List ℕ)))
        → mapped put_together ((cond b (x >>= λ y. Ok ((at, Some y.0), y.1)) (Ok ((at, None), us))) >>= behind_named)
        ≡ joined (with_kind at (paired (cond b (mapped (λ k. all_or_none (Some k)) x) (Ok ([], us))) some_refinement_at))
    second at us false x = last_part (at, None) us
    second at us true (Ok y) = last_part (at, Some y.0) y.1
    second at us true (Err e) = refl

    first : (x : Read (List ℕ × Place))
        → mapped put_together ((x >>= λ z. cond (starts (just (codes ":")) z.1) (behind_at (just (codes ":")) kind_at z.1 >>= λ y. Ok ((z.0, Some y.0), y.1)) (Ok ((z.0, None), z.1))) >>= behind_named)
        ≡ joined (paired x (seq_at colon_kind_at some_refinement_at))
    first (Ok z) = second z.0 z.1 (starts (just (codes ":")) z.1) (behind_at (just (codes ":")) kind_at z.1)
    first (Err e) = refl

pub decl_rule : (n : ℕ) → Rule (λ m. decl) n names after_decl decl_at
decl_rule n = rule_by (λ m. decl) n names after_decl parts_at decl_at same_parts (as_rule put_together after_decl
    (tail_rule (tail_rule (placed_name_rule n) (behind_rule (just (codes ":")) (codes ":") refl (kind_rule n)) (λ a. refl)) (refinement_rule n) named_free) decl_ends)

-- ---- lists

comma_free : (list : List (List ℕ)) (part : Option (List ℕ)) → apart (just (codes ",")) (after_parts list part) ≡ true
comma_free list (Some part) = refl
comma_free [] None = refl
comma_free (first ∷ []) None = refl
comma_free (first ∷ second ∷ more) None = refl

end_free : (list : List (List ℕ)) (part : Option (List ℕ)) → apart ends (after_parts list part) ≡ true
end_free list (Some part) = refl
end_free [] None = refl
end_free (first ∷ []) None = refl
end_free (first ∷ second ∷ more) None = refl

-- what can't follow a list of declarations
abbrev pub after_decls : List Decl → Set
after_decls list = just (codes ",") ++ final after_decl list

pub decl_list_rule : (n : ℕ) → Rule (λ m. decl_list) n names after_decls decl_list_at
decl_list_rule n = listed_rule (codes ",") (λ d. comma_free d.kind d.refined) refl (decl_rule n)

decls_free : (list : List Decl) → apart ends (after_decls list) ≡ true
decls_free list = both_apart ends (just (codes ",")) (final after_decl list) refl (final_apart ends after_decl (λ d. end_free d.kind d.refined) list)

pub declaration_rule : (n : ℕ) → Rule (λ m. declaration) n (just (codes "instance")) none declaration_at
declaration_rule n = behind_rule (just (codes "instance")) (codes "instance") refl (as_rule (λ p. (p.0, p.1.0)) none
    (optional_rule all_or_none (kind_rule n) (optional_rule kept (refinement_rule n) (ending_rule n) (λ a. refl) refl) kind_free refl) (λ a. refl))
  where
    kind_free : (list : List (List ℕ)) → apart (just (codes "decomposed") ++ ends) (after_kind list) ≡ true
    kind_free [] = refl
    kind_free (first ∷ []) = refl
    kind_free (first ∷ second ∷ more) = refl

-- ---- the heads of a chart

line_rule : {A : Type 0} {R : Grammar A} {C : A → Set} {p : List Token → Read A} (text : List ℕ) (n : ℕ) → among (just text) (token_of text) ≡ true → ((a : A) → apart ends (C a) ≡ true) → Rule (λ m. R) n names C p
    → Rule (λ m. line text R) n (just text) none (line_at text p)
line_rule text n is free r = as_rule (λ p. p.0) none (behind_rule (just text) text is (seq_rule r (ending_rule n) free)) (λ a. refl)

pub head_rule : (n : ℕ) → Rule (λ m. head) n head_words none head_at
head_rule n =
    or_rule (as_rule of_decls none (line_rule (codes "inst") n refl decls_free (decl_list_rule n)) (λ a. refl))
    (or_rule (as_rule of_messages none (line_rule (codes "msg") n refl (λ a. refl) (name_list_rule n)) (λ a. refl))
    (as_rule of_timers none (line_rule (codes "timer") n refl (λ a. refl) (name_list_rule n)) (λ a. refl)) refl) refl

-- ---- their laws

pub heading_law : (n : ℕ) → Law (λ m. heading) n (just (codes "mscdocument")) none
heading_law = law_by heading_rule

pub decl_law : (n : ℕ) → Law (λ m. decl) n names after_decl
decl_law = law_by decl_rule

pub decl_list_law : (n : ℕ) → Law (λ m. decl_list) n names after_decls
decl_list_law = law_by decl_list_rule

pub declaration_law : (n : ℕ) → Law (λ m. declaration) n (just (codes "instance")) none
declaration_law = law_by declaration_rule

pub head_law : (n : ℕ) → Law (λ m. head) n head_words none
head_law = law_by head_rule
