-- Documents: a document that isn't empty has its rule, and what it answers is the answer for documents.
use Rattle.std.proofs.Common.{ℕ, suc, ◌≡◌, ◌∙◌, ◌++◌, ◌⊎◌, true, List, [], ◌∷◌, length, refl, sym, ap, ap₂, inl, inr, subst, append-nil, append_assoc, Option, Some, None, Ok, Err, codes}
use Rattle.msc_tokens.specs.declared.token.Token.{Token}
use Rattle.msc_tree.specs.declared.chart.Heading.{Heading}
use Rattle.msc_tree.specs.Charts.{Chart, Document}
use Rattle.token_grammar.specs.Languages.{Set, Read, refused, deep, apart, just, tail_ends, ◌>>=◌}
use Rattle.token_grammar.specs.Languages as rules
use Rattle.token_grammar.specs.Grammars.{Grammar, or, read_as, chain, tail, behind}
use Rattle.token_grammar.specs.Parts.{ending}
use Rattle.token_grammar.specs.Parsing.{BeginsReading, Level, IsRefused, IsTooDeep, OneReading}
use Rattle.token_grammar.proofs.Lists.{starts_some}
use Rattle.token_grammar.proofs.Eaches.{last}
use Rattle.token_grammar.proofs.Chains.{ends_of}
use Rattle.token_grammar.proofs.Optionals.{none, behind_law, behind_rule}
use Rattle.token_grammar.proofs.PartRules.{ending_law, ending_rule}
use Rattle.token_grammar.proofs.Parses.{one_value, refused_parse, deep_parse, whole_parse, left_parse}
use Rattle.token_grammar.proofs.Rules.{Law, Rule, or_law, or_rule, as_law, as_rule, chain_law, chain_rule, tail_law, tail_rule}
use Rattle.token_grammar.proofs.Shallow.{behind_shallow}
use Rattle.token_grammar.specs.Exactness.{IsExact}
use Rattle.msc_events.specs.Declarations.{heading}
use Rattle.msc_events.proofs.DeclarationRules.{heading_law, heading_rule}
use Rattle.msc_document.specs.DocumentGrammar.{chart, document}
use Rattle.msc_document.specs.DocumentReaders.{Parts, parts_of, headed, unheaded, ended, empty_document, document_end_at, parts_at, document_at}
use Rattle.msc_document.proofs.ChartRules.{chart_law, chart_rule}
use Rattle.msc_document.proofs.Shallows.{ending_shallow, heading_shallow}

abbrev document_end : Grammar (Unit {0})
document_end = behind (just (codes "endmscdocument")) ending

abbrev msc_word : Set
msc_word = just (codes "msc")

abbrev end_word : Set
end_word = just (codes "endmscdocument")

-- a document that isn't empty, in its parts
abbrev parts : ℕ → Grammar Parts
parts n = or (read_as headed (tail (chain heading (chart n)) document_end)) (or (read_as unheaded (tail (chain (chart n) (chart n)) document_end)) (read_as ended document_end))

-- what can't follow them
abbrev after_parts : Parts → Set
after_parts (p, None) = end_word ++ msc_word
after_parts (p, Some e) = []

document_end_law : (n : ℕ) → Law (λ m. document_end) n end_word none
document_end_law n = behind_law end_word (ending_law n)

pub document_end_rule : (n : ℕ) → Rule (λ m. document_end) n end_word none document_end_at
document_end_rule n = behind_rule end_word (codes "endmscdocument") refl (ending_rule n)

last_none : {A : Type 0} (xs : List A) → last none [] xs ≡ []
last_none [] = refl
last_none (x ∷ xs) = last_none xs

module _ {A : Type 0} where
  -- what can't follow something and charts
  abbrev after_charts : A × List Chart → Set
  after_charts = ends_of none msc_word none

  no_end : (p : A × List Chart) → apart end_word (after_charts p) ≡ true
  no_end p = subst (λ (s : Set). apart end_word (msc_word ++ s) ≡ true) (sym (last_none p.1)) refl

headed_ends : (a : (Heading × List Chart) × Option (Unit {0})) → after_parts (headed a) ≡ tail_ends after_charts end_word none a
headed_ends (p, None) = ap (λ (s : Set). end_word ++ (msc_word ++ s)) (sym (last_none p.1))
headed_ends (p, Some e) = refl

unheaded_ends : (a : (Chart × List Chart) × Option (Unit {0})) → after_parts (unheaded a) ≡ tail_ends after_charts end_word none a
unheaded_ends (p, None) = ap (λ (s : Set). end_word ++ (msc_word ++ s)) (sym (last_none p.1))
unheaded_ends (p, Some e) = refl

parts_law : (n : ℕ) → Law parts n (just (codes "mscdocument") ++ (msc_word ++ end_word)) after_parts
parts_law n = or_law (as_law headed after_parts (tail_law (chain_law (heading_law n) (chart_law n) (λ b. refl) (λ a. refl)) (document_end_law n) no_end) headed_ends)
    (or_law (as_law unheaded after_parts (tail_law (chain_law (chart_law n) (chart_law n) (λ b. refl) (λ a. refl)) (document_end_law n) no_end) unheaded_ends) (as_law ended after_parts (document_end_law n) (λ a. refl)) refl) refl

parts_rule : (n : ℕ) → Rule parts n (just (codes "mscdocument") ++ (msc_word ++ end_word)) after_parts (parts_at n)
parts_rule n = or_rule (as_rule headed after_parts (tail_rule (chain_rule (heading_rule n) (chart_rule n) (λ b. refl) (λ a. refl)) (document_end_rule n) no_end) headed_ends)
    (or_rule (as_rule unheaded after_parts (tail_rule (chain_rule (chart_rule n) (chart_rule n) (λ b. refl) (λ a. refl)) (document_end_rule n) no_end) unheaded_ends) (as_rule ended after_parts (document_end_rule n) (λ a. refl)) refl) refl

-- ---- a document is empty, or its parts

to_document : (n : ℕ) (x : List Token) (p : Parts) → (parts n).reads x p → (document n).reads x (parts_of p)
to_document n x p (inl (((h, cs), None), (y, z, cut, hy, hz), same)) = rw same ((Some h, (cs, None)), (y, z, cut, inr (h, hy, refl), (z, [], sym (append-nil z), hz, inl (refl, refl))), refl)
to_document n x p (inl (((h, cs), Some e), (u, v, cut, (y, z, cut2, hy, hz), hv), same)) =
    rw same ((Some h, (cs, Some e)), (y, z ++ v, cut ∙ ap (λ l. l ++ v) cut2 ∙ append_assoc y z v, inr (h, hy, refl), (z, v, refl, hz, inr (e, hv, refl))), refl)
to_document n x p (inr (inl (((c, cs), None), (y, z, cut, hy, hz), same))) = rw same ((None, (c ∷ cs, None)), ([], x, refl, inl (refl, refl), (x, [], sym (append-nil x), (y, z, cut, hy, hz), inl (refl, refl))), refl)
to_document n x p (inr (inl (((c, cs), Some e), (u, v, cut, hu, hv), same))) = rw same ((None, (c ∷ cs, Some e)), ([], x, refl, inl (refl, refl), (u, v, cut, hu, inr (e, hv, refl))), refl)
to_document n x p (inr (inr (e, h, same))) = rw same ((None, ([], Some e)), ([], x, refl, inl (refl, refl), ([], x, refl, refl, inr (e, h, refl))), refl)

abbrev Known : ℕ → List Token → Document → Type 0
Known n x d = ((x ≡ []) × (d ≡ empty_document)) ⊎ ((q : Parts) × (parts n).reads x q × (d ≡ parts_of q))

abbrev Ending : List Token → Option (Unit {0}) → Type 0
Ending z e = ((z ≡ []) × (e ≡ None)) ⊎ ((a : Unit {0}) × document_end.reads z a × (e ≡ Some a))

-- with a heading
with_heading : (n : ℕ) (y z z1 z2 : List Token) (h : Heading) (cs : List Chart) (e : Option (Unit {0})) → heading.reads y h → z ≡ z1 ++ z2 → rules.each (chart n).reads z1 cs → Ending z2 e
    → Known n (y ++ z) (record { heading = Some h; charts = cs })
with_heading n y z z1 z2 h cs e hy cut hc (inl (none_left, same)) =
    inr (((Some h, cs), None), inl (((h, cs), None), (y, z, refl, hy, subst (λ l. rules.each (chart n).reads l cs) (sym (cut ∙ ap (λ l. z1 ++ l) none_left ∙ append-nil z1)) hc), refl), refl)
with_heading n y z z1 z2 h cs e hy cut hc (inr (a, k, same)) =
    inr (((Some h, cs), Some a), inl (((h, cs), Some a), (y ++ z1, z2, ap (λ l. y ++ l) cut ∙ sym (append_assoc y z1 z2), (y, z1, refl, hy, hc), k), refl), refl)

-- without one
without_heading : (n : ℕ) (z z1 z2 : List Token) (cs : List Chart) (e : Option (Unit {0})) → z ≡ z1 ++ z2 → rules.each (chart n).reads z1 cs → Ending z2 e → Known n z (record { heading = None; charts = cs })
without_heading n z z1 z2 [] e cut hc (inl (none_left, same)) = inl (cut ∙ ap₂ (λ k l. k ++ l) hc none_left, refl)
without_heading n z z1 z2 [] e cut hc (inr (a, k, same)) =
    inr (((None, []), Some a), inr (inr (a, subst (λ l. document_end.reads l a) (sym (cut ∙ ap (λ l. l ++ z2) hc)) k, refl)), refl)
without_heading n z z1 z2 (c ∷ cs) e cut hc (inl (none_left, same)) =
    inr (((None, c ∷ cs), None), inr (inl (((c, cs), None), (hc.0, hc.1, cut ∙ ap (λ l. z1 ++ l) none_left ∙ append-nil z1 ∙ hc.2, hc.3, hc.4), refl)), refl)
without_heading n z z1 z2 (c ∷ cs) e cut hc (inr (a, k, same)) =
    inr (((None, c ∷ cs), Some a), inr (inl (((c, cs), Some a), (z1, z2, cut, (hc.0, hc.1, hc.2, hc.3, hc.4), k), refl)), refl)

pick_heading : (n : ℕ) (y z z1 z2 : List Token) (o : Option Heading) (cs : List Chart) (e : Option (Unit {0})) → ((y ≡ []) × (o ≡ None)) ⊎ ((a : Heading) × heading.reads y a × (o ≡ Some a))
    → z ≡ z1 ++ z2 → rules.each (chart n).reads z1 cs → Ending z2 e → Known n (y ++ z) (record { heading = o; charts = cs })
pick_heading n y z z1 z2 o cs e (inl (none_there, same)) cut hc he =
    subst (λ (p : List Token × Option Heading). Known n (p.0 ++ z) (record { heading = p.1; charts = cs })) (sym (ap₂ (λ (a : List Token) (b : Option Heading). (a, b)) none_there same)) (without_heading n z z1 z2 cs e cut hc he)
pick_heading n y z z1 z2 o cs e (inr (a, k, same)) cut hc he =
    subst (λ (b : Option Heading). Known n (y ++ z) (record { heading = b; charts = cs })) (sym same) (with_heading n y z z1 z2 a cs e k cut hc he)

from_document : (n : ℕ) (x : List Token) (d : Document) → (document n).reads x d → Known n x d
from_document n x d h =
    let p = h.1 in
    let q = p.4 in
    subst (λ (b : Document). Known n x b) (sym h.2) (subst (λ l. Known n l (record { heading = h.0.0; charts = h.0.1.0 })) (sym p.2) (pick_heading n p.0 p.1 q.0 q.1 h.0.0 h.0.1.0 h.0.1.1 p.3 q.2 q.3 q.4))

-- ---- openings

no_end_opening : (p : List Token) → document_end.brink p → ⊥
no_end_opening p k = (behind_shallow end_word ending_shallow).none p k

to_document_brink : (n : ℕ) (p : List Token) → (parts n).brink p → (document n).brink p
to_document_brink n p (inl (inl (inl k))) = absurd (heading_shallow.none p k)
to_document_brink n p (inl (inl (inr (y, z, a, cut, h, k)))) = inr (y, z, Some a, cut, inr (a, h, refl), inl k)
to_document_brink n p (inl (inr k)) = absurd (no_end_opening k.1 k.5)
to_document_brink n p (inr (inl (inl (inl k)))) = inr ([], p, None, refl, inl (refl, refl), inl ([], p, [], refl, refl, k))
to_document_brink n p (inr (inl (inl (inr (y, z, a, cut, h, k))))) =
    inr ([], p, None, refl, inl (refl, refl), inl (y ++ k.0, k.1, a ∷ k.2, cut ∙ ap (λ l. y ++ l) k.3 ∙ sym (append_assoc y k.0 k.1), (y, k.0, refl, h, k.4), k.5))
to_document_brink n p (inr (inl (inr k))) = absurd (no_end_opening k.1 k.5)
to_document_brink n p (inr (inr k)) = absurd (no_end_opening p k)

in_charts : (n : ℕ) (p z1 z2 : List Token) (cs : List Chart) → p ≡ z1 ++ z2 → rules.each (chart n).reads z1 cs → (chart n).brink z2 → (parts n).brink p
in_charts n p z1 z2 [] cut h k = inr (inl (inl (inl (subst (λ l. (chart n).brink l) (sym (cut ∙ ap (λ l. l ++ z2) h)) k))))
in_charts n p z1 z2 (c ∷ cs) cut h k =
    inr (inl (inl (inr (h.0, h.1 ++ z2, c, cut ∙ ap (λ l. l ++ z2) h.2 ∙ append_assoc h.0 h.1 z2, h.3, (h.1, z2, cs, refl, h.4, k)))))

from_document_brink : (n : ℕ) (p : List Token) → (document n).brink p → (parts n).brink p
from_document_brink n p (inl k) = absurd (heading_shallow.none p k)
from_document_brink n p (inr (y, z, v, cut, inl (none_there, same), inl k)) = in_charts n p k.0 k.1 k.2 (cut ∙ ap (λ l. l ++ z) none_there ∙ k.3) k.4 k.5
from_document_brink n p (inr (y, z, v, cut, inr (a, h, same), inl k)) = inl (inl (inr (y, z, a, cut, h, k)))
from_document_brink n p (inr (y, z, v, cut, h, inr k)) = absurd (no_end_opening k.1 k.5)

-- ---- the answers

pub one_document : OneReading document
one_document m n ts a b h k = pick (from_document m ts a h) (from_document n ts b k)
  where
    not_empty : (i : ℕ) (q : Parts) → (parts i).reads ts q → ts ≡ [] → ⊥
    not_empty i q r e = starts_some (just (codes "mscdocument") ++ (msc_word ++ end_word)) ts ((parts_law 0).laws.begins i ts q r) e

    pick : Known m ts a → Known n ts b → a ≡ b
    pick (inl (e, p)) (inl (f, q)) = p ∙ sym q
    pick (inl (e, p)) (inr (q, r, s)) = absurd (not_empty n q r e)
    pick (inr (q, r, s)) (inl (e, p)) = absurd (not_empty m q r e)
    pick (inr (q, r, s)) (inr (u, v, w)) = s ∙ ap parts_of (one_value parts (just (codes "mscdocument") ++ (msc_word ++ end_word)) after_parts parts_law m n ts q u r v) ∙ sym w

module _ (n : ℕ) (t : Token) (ts : List Token) where
  begins_document : (m : ℕ) (prefix : List Token) → BeginsReading parts m prefix → BeginsReading document m prefix
  begins_document m prefix b = record { more = b.more; value = parts_of b.value; reads = to_document m (prefix ++ b.more) b.value b.reads }

  begins_parts : (m : ℕ) (prefix : List Token) (token : Token) → BeginsReading document m (prefix ++ token ∷ []) → BeginsReading parts m (prefix ++ token ∷ [])
  begins_parts m prefix token b = pick (from_document m ((prefix ++ token ∷ []) ++ b.more) b.value b.reads)
    where
      some : (l : List Token) → (l ++ token ∷ []) ++ b.more ≡ [] → ⊥
      some [] e = cc
      some (u ∷ l) e = cc

      pick : Known m ((prefix ++ token ∷ []) ++ b.more) b.value → BeginsReading parts m (prefix ++ token ∷ [])
      pick (inl (e, p)) = absurd (some prefix e)
      pick (inr (q, r, s)) = record { more = b.more; value = q; reads = r }

  refused_document : (left : ℕ) → IsRefused parts n (t ∷ ts) left → IsRefused document n (t ∷ ts) left
  refused_document left r = record {
    prefix = r.prefix;
    rest = r.rest;
    cut = r.cut;
    counted = r.counted;
    begins = begins_document (suc n) r.prefix r.begins;
    level = λ p q e k. r.level p q e (from_document_brink n p k);
    stops = λ m token behind e b. r.stops m token behind e (begins_parts m r.prefix token b);
    ends = λ e m value h. ends e m value (from_document m r.prefix value h);
  }
    where
      ends : r.rest ≡ [] → (m : ℕ) (value : Document) → Known m r.prefix value → ⊥
      ends e m value (inl (f, p)) = none_there (r.cut ∙ ap₂ (λ a b. a ++ b) f e)
        where
          none_there : t ∷ ts ≡ [] → ⊥
          none_there q = cc
      ends e m value (inr (q, h, s)) = r.ends e m q h

  deep_document : (left : ℕ) → IsTooDeep parts n (t ∷ ts) left → IsTooDeep document n (t ∷ ts) left
  deep_document left r = record {
    prefix = r.prefix;
    token = r.token;
    rest = r.rest;
    cut = r.cut;
    counted = r.counted;
    opens = to_document_brink n (r.prefix ++ r.token ∷ []) r.opens;
    level = λ p q e k. r.level p q e (from_document_brink n p k);
  }

  answer : (x : Read Parts) → parts_at n (t ∷ ts) ≡ x → IsExact document n (t ∷ ts) (x >>= λ y. Ok (parts_of y.0, y.1))
  answer (Ok (p, [])) e = to_document n (t ∷ ts) p (whole_parse parts n (just (codes "mscdocument") ++ (msc_word ++ end_word)) after_parts (parts_at n) (parts_rule n) (t ∷ ts) [] p e refl)
  answer (Ok (p, u ∷ rest)) e = refused_document (length (u ∷ rest)) (left_parse parts n (just (codes "mscdocument") ++ (msc_word ++ end_word)) after_parts (parts_at n) (parts_rule n) (t ∷ ts) (u ∷ rest) p e (λ q. some_left q))
    where
      some_left : u ∷ rest ≡ [] → ⊥
      some_left q = cc
  answer (Err (refused left)) e = refused_document left (refused_parse parts n (just (codes "mscdocument") ++ (msc_word ++ end_word)) after_parts (parts_at n) (parts_rule n) (t ∷ ts) left e)
  answer (Err (deep left)) e = deep_document left (deep_parse parts n (just (codes "mscdocument") ++ (msc_word ++ end_word)) after_parts (parts_at n) (parts_rule n) (t ∷ ts) left e)

pub document_exact : (n : ℕ) (ts : List Token) → IsExact document n ts (document_at n ts)
document_exact n [] = ((None, ([], None)), ([], [], refl, inl (refl, refl), ([], [], refl, refl, inl (refl, refl))), refl)
document_exact n (t ∷ ts) = answer n t ts (parts_at n (t ∷ ts)) refl

-- what opens a level too many goes on with one level more
pub opened_document : (n : ℕ) (p : List Token) → (document n).brink p → BeginsReading document (suc n) p
opened_document n p k =
    let v = (parts_rule n).known.opened p (from_document_brink n p k) in
    record { more = v.more; value = parts_of v.value; reads = to_document (suc n) (p ++ v.more) v.value v.holds }

no_front : (p q : List Token) → p ++ q ≡ [] → p ≡ []
no_front [] q e = refl
no_front (t ∷ p) q e = cc

-- a document opens no level too many
pub proper_document : (n : ℕ) (x : List Token) (d : Document) → (document n).reads x d → Level document n x
proper_document n x d h p q e k = go (from_document n x d h)
  where
    go : Known n x d → ⊥
    go (inl (none_there, same)) = (parts_rule n).known.some p (from_document_brink n p k) (no_front p q (sym e ∙ none_there))
    go (inr (v, r, same)) = (parts_rule n).known.proper x v r p q e (from_document_brink n p k)
