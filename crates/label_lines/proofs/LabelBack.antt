-- The text of a label that some bytes say is a text of it, and of no other, and as a line of a log it says its event.
use Rattle.std.proofs.Common.{ℕ, ◌≡◌, ◌<◌, ◌∙◌, ◌++◌, All, List, [], ◌∷◌, length, Option, Some, None, Ok, refl, sym, ap, subst, inl, inr, append-nil, append_assoc, arith, codes}
use Rattle.msc_base.specs.Only.{Only}
use Rattle.msc_base.specs.declared.label.Far.{Far}
use Rattle.msc_base.specs.declared.label.Far.TheVariants as far
use Rattle.msc_base.specs.declared.label.Kind.{Kind}
use Rattle.msc_base.specs.declared.label.Kind.TheVariants.{Output, Input, OutputLost, InputFound, Action, TimerStart, TimerStop, Timeout, Create}
use Rattle.msc_base.specs.declared.label.Label.{Label}
use Rattle.msc_tokens.specs.declared.token.Token.{Token}
use Rattle.msc_tokens.specs.Spelling.{Spells}
use Rattle.msc_tokens.proofs.Unique.{one_spelling}
use Rattle.msc_tree.specs.Labels.{far_of, label_of, list_text}
use Rattle.msc_tree.specs.declared.event.RawEvent.{RawEvent}
use Rattle.msc_tree.specs.declared.event.Target.{Target}
use Rattle.msc_tree.specs.declared.event.Target.TheVariants.{Nobody, Env, Instance, Gate}
use Rattle.token_grammar.specs.Languages.{texts}
use Rattle.msc_events.specs.LogEvents.{event, ReadsEvent}
use Rattle.msc_events.proofs.LogAnswers.{event_only}
use Rattle.msc_print.specs.EventWords.{act_words, parameter_words, target_words}
use Rattle.msc_print.specs.Texts.{AreTexts}
use Rattle.msc_print.specs.Words.{Words, end_words}
use Rattle.msc_print.proofs.Printed.{proper}
use Rattle.msc_print.proofs.Tidy.{Proper, tidy_texts}
use Rattle.event_log.specs.Logs.{log_rules}
use Rattle.event_log.specs.Meanings.{IsDigit, StatesVersion}
use Rattle.event_log.specs.Objects.{Spelled}
use Rattle.event_log.specs.declared.event.Version.{Version}
use Rattle.event_log.specs.declared.line.Line.TheVariants.{Event}
use Rattle.event_log.proofs.Spelling.{only_spelled, allowed_event, says_spelled}
use Rattle.label_lines.specs.LabelLines.{far_words, label_line}
use Rattle.label_lines.specs.ReadingBack.{IsEventText, SaysLabel, IsLineOf}
use Rattle.label_lines.proofs.EventBack.{IsPlain, FitsKind, unpaired, line_words, parts_of, parts_back}
use Rattle.label_lines.proofs.Laid.{Laid, none, blank, Stops, put_in, listed_laid, laid_spelled}

-- ---- a label's text is its words, with blanks between them

end_laid : Laid end_words (codes ";")
end_laid = put_in (codes ";") [] [] (inl tt) none

end_stops : Stops (codes ";")
end_stops = inr (inr (inr (inr (inr refl))))

-- an instance, and the word of an act
begin_laid : (at way : List ℕ) (ws : Words) (bytes : List ℕ) → Laid ws bytes → Laid (at ∷ codes ":" ∷ way ∷ ws) (at ++ (codes ": " ++ (way ++ (codes " " ++ bytes))))
begin_laid at way ws bytes l =
    put_in at _ (codes ": " ++ (way ++ (codes " " ++ bytes))) (inl (inr (inr (inr (inr (inl refl))))))
    (put_in (codes ":") _ (codes " " ++ (way ++ (codes " " ++ bytes))) (inl (inl refl))
    (blank _ (way ++ (codes " " ++ bytes)) (put_in way ws (codes " " ++ bytes) (inl (inl refl)) (blank ws bytes l))))

-- an act without another end
local_laid : (at way text : List ℕ) (ps : Option (List (List ℕ))) (target : List ℕ) → target ≡ [] →
    Laid (at ∷ codes ":" ∷ way ∷ text ∷ (parameter_words ps ++ end_words)) (at ++ (codes ": " ++ ((way ++ (codes " " ++ ((text ++ list_text ps) ++ target))) ++ codes ";")))
local_laid at way text ps target nobody =
    subst (λ (z : List ℕ). Laid (at ∷ codes ":" ∷ way ∷ text ∷ (parameter_words ps ++ end_words)) (at ++ (codes ": " ++ z))) (regroup way (codes " ") (text ++ list_text ps) (codes ";") ∙ ap (λ (z : List ℕ). (way ++ (codes " " ++ ((text ++ list_text ps) ++ z))) ++ codes ";") (sym nobody))
    (begin_laid at way _ ((text ++ list_text ps) ++ codes ";") (listed_laid text ps end_words (codes ";") end_stops end_laid))
  where
    group : (a b c d : List ℕ) → a ++ (b ++ (c ++ d)) ≡ (a ++ (b ++ c)) ++ d
    group a b c d = simp append_assoc

    regroup : (a b c d : List ℕ) → a ++ (b ++ (c ++ d)) ≡ (a ++ (b ++ (c ++ []))) ++ d
    regroup a b c d = ap (λ (z : List ℕ). a ++ (b ++ (z ++ d))) (sym (append-nil c)) ∙ group a b (c ++ []) d

-- how the other end is written
pub record WritesFar (target : Far → List ℕ) : Type 0 where
  pub nobody : target far.Nobody ≡ []
  pub env : target far.Env ≡ codes " env"
  pub one : (name : List ℕ) → target (far.Instance name) ≡ codes " " ++ name

pub record IsBehind (ws : Words) (bytes : List ℕ) : Type 0 where
  pub laid : Laid ws bytes
  pub stops : Stops bytes

target_laid : (target : Far → List ℕ) → WritesFar target → (t : Target) → IsPlain t → IsBehind (target_words t ++ end_words) (target (far_of t) ++ codes ";")
target_laid target w Nobody p = subst (λ (z : List ℕ). IsBehind end_words (z ++ codes ";")) (sym w.nobody) (record { laid = end_laid; stops = end_stops })
target_laid target w (Env None) p = subst (λ (z : List ℕ). IsBehind (codes "env" ∷ end_words) (z ++ codes ";")) (sym w.env) (record { laid = blank _ _ (put_in (codes "env") end_words (codes ";") (inl end_stops) end_laid); stops = inl refl })
target_laid target w (Env (Some gate)) p = absurd p
target_laid target w (Instance name) p = subst (λ (z : List ℕ). IsBehind (name ∷ end_words) (z ++ codes ";")) (sym (w.one name)) (record { laid = blank _ _ (put_in name end_words (codes ";") (inl end_stops) end_laid); stops = inl refl })
target_laid target w (Gate reference gate) p = absurd p

-- a message, and what leads to its other end
exchange_laid : (at way text : List ℕ) (ps : Option (List (List ℕ))) (leads : Words) (lead : List ℕ) → ((ws : Words) (bytes : List ℕ) → IsBehind ws bytes → IsBehind (leads ++ ws) (lead ++ bytes)) →
    (target : Far → List ℕ) → WritesFar target → (t : Target) → IsPlain t →
    Laid (at ∷ codes ":" ∷ way ∷ text ∷ ((parameter_words ps ++ (leads ++ target_words t)) ++ end_words)) (at ++ (codes ": " ++ ((way ++ (codes " " ++ ((text ++ list_text ps) ++ (lead ++ target (far_of t))))) ++ codes ";")))
exchange_laid at way text ps leads lead leading target w t p =
    let behind = leading _ _ (target_laid target w t p) in
    subst (λ (z : Words). Laid (at ∷ codes ":" ∷ way ∷ text ∷ z) (at ++ (codes ": " ++ ((way ++ (codes " " ++ ((text ++ list_text ps) ++ (lead ++ target (far_of t))))) ++ codes ";")))) (words (parameter_words ps) leads (target_words t) end_words)
    (subst (λ (z : List ℕ). Laid (at ∷ codes ":" ∷ way ∷ text ∷ (parameter_words ps ++ (leads ++ (target_words t ++ end_words)))) (at ++ (codes ": " ++ z))) (regroup way (codes " ") (text ++ list_text ps) lead (target (far_of t)) (codes ";"))
    (begin_laid at way _ _ (listed_laid text ps _ _ behind.stops behind.laid)))
  where
    words : (a b c d : Words) → a ++ (b ++ (c ++ d)) ≡ (a ++ (b ++ c)) ++ d
    words a b c d = simp append_assoc

    regroup : (a b c d e f : List ℕ) → a ++ (b ++ (c ++ (d ++ (e ++ f)))) ≡ (a ++ (b ++ (c ++ (d ++ e)))) ++ f
    regroup a b c d e f = simp append_assoc

one_lead : (w : List ℕ) (ws : Words) (bytes : List ℕ) → IsBehind ws bytes → IsBehind (w ∷ ws) (codes " " ++ (w ++ bytes))
one_lead w ws bytes h = record { laid = blank _ _ (put_in w ws bytes (inl h.stops) h.laid); stops = inl refl }

two_leads : (v w : List ℕ) (ws : Words) (bytes : List ℕ) → IsBehind ws bytes → IsBehind (v ∷ w ∷ ws) (codes " " ++ (v ++ (codes " " ++ (w ++ bytes))))
two_leads v w ws bytes h = one_lead v (w ∷ ws) _ (one_lead w ws bytes h)

-- the words of an event are its label's text
pub laid_as : (k : Kind) (at : List ℕ) (e : RawEvent) → FitsKind k e →
    Laid (at ∷ codes ":" ∷ (act_words k (unpaired e) ++ end_words)) (label_line (record { at = at; kind = k; text = e.text ++ list_text e.parameters; far = far_of e.target }))
laid_as Output at e h = exchange_laid at (codes "out") e.text e.parameters (codes "to" ∷ []) (codes " to") (one_lead (codes "to")) (far_words Output) (record { nobody = refl; env = refl; one = λ n. refl }) e.target h
laid_as Input at e h = exchange_laid at (codes "in") e.text e.parameters (codes "from" ∷ []) (codes " from") (one_lead (codes "from")) (far_words Input) (record { nobody = refl; env = refl; one = λ n. refl }) e.target h
laid_as OutputLost at e h = exchange_laid at (codes "out") e.text e.parameters (codes "to" ∷ codes "lost" ∷ []) (codes " to lost") (two_leads (codes "to") (codes "lost")) (far_words OutputLost) (record { nobody = refl; env = refl; one = λ n. refl }) e.target h
laid_as InputFound at e h = exchange_laid at (codes "in") e.text e.parameters (codes "from" ∷ codes "found" ∷ []) (codes " from found") (two_leads (codes "from") (codes "found")) (far_words InputFound) (record { nobody = refl; env = refl; one = λ n. refl }) e.target h
laid_as Action at e h =
    subst (λ (ps : Option (List (List ℕ))). Laid (at ∷ codes ":" ∷ codes "action" ∷ e.text ∷ end_words) (label_line (record { at = at; kind = Action; text = e.text ++ list_text ps; far = far_of e.target }))) (sym h.0)
    (local_laid at (codes "action") e.text None (far_words Action (far_of e.target)) (ap (λ (t : Target). far_words Action (far_of t)) h.1))
laid_as TimerStart at e h = local_laid at (codes "starttimer") e.text e.parameters (far_words TimerStart (far_of e.target)) (ap (λ (t : Target). far_words TimerStart (far_of t)) h)
laid_as TimerStop at e h = local_laid at (codes "stoptimer") e.text e.parameters (far_words TimerStop (far_of e.target)) (ap (λ (t : Target). far_words TimerStop (far_of t)) h)
laid_as Timeout at e h = local_laid at (codes "timeout") e.text e.parameters (far_words Timeout (far_of e.target)) (ap (λ (t : Target). far_words Timeout (far_of t)) h)
laid_as Create at e h =
    subst (λ (ps : Option (List (List ℕ))). Laid (at ∷ codes ":" ∷ codes "create" ∷ e.text ∷ end_words) (label_line (record { at = at; kind = Create; text = e.text ++ list_text ps; far = far_of e.target }))) (sym h.0)
    (local_laid at (codes "create") e.text None (far_words Create (far_of e.target)) refl)

-- ---- it is read again

-- how a label is written and read
pub record IsWritten (label : Label) : Type 0 where
  pub at : List ℕ
  pub acts : Words
  pub are : AreTexts (at ∷ codes ":" ∷ acts)
  pub laid : Laid (at ∷ codes ":" ∷ acts) (label_line label)
  pub reads : (t : List Token) → texts t ≡ at ∷ codes ":" ∷ acts → event.reads t label

abbrev joined : List ℕ × Label → Label
joined p = record p.1 { at = p.0 }

written : (x : List Token) (label : Label) → event.reads x label → Proper x → IsWritten label
written x label h p =
    let parts = h.0 in
    let known = parts_back.back x parts h.1 in record {
      at = parts.0;
      acts = act_words parts.1.kind (unpaired parts.1) ++ end_words;
      are = tidy_texts (line_words parts) (parts_back.tidy x parts h.1 p);
      laid = subst (λ (l : Label). Laid (line_words parts) (label_line l)) (sym h.2) (laid_as parts.1.kind parts.0 parts.1 known.0);
      reads = λ t e. let b = known.1 t e in (b.0, b.1, h.2 ∙ ap joined (sym b.2));
    }

-- tokens with the texts of proper ones are proper
same_proper : (x y : List Token) → texts x ≡ texts y → Proper y → Proper x
same_proper [] y e p = tt
same_proper (t ∷ x) [] e p = absurd cc
same_proper (t ∷ x) (u ∷ y) e p =
    let first : t.bytes ≡ u.bytes = cc in
    let rest : texts x ≡ texts y = cc in
    (rw first p.0, same_proper x y rest p.1)

-- what the text of a label spells
pub record IsRead (label : Label) : Type 0 where
  pub at : List ℕ
  pub acts : Words
  pub tokens : List Token
  pub spells : Only (Spells (label_line label)) tokens
  pub are : texts tokens ≡ at ∷ codes ":" ∷ acts
  pub reads : Only (ReadsEvent (texts tokens)) label

pub read_again : (bytes : List ℕ) (label : Label) → IsEventText bytes label → IsRead label
read_again bytes label h =
    let w = written h.is.spelled label h.is.reads (same_proper h.is.spelled h.tokens h.is.are (proper bytes h.tokens h.spells)) in
    let cut = laid_spelled (w.at ∷ codes ":" ∷ w.acts) (label_line label) w.laid w.are in
    let reads : ReadsEvent (texts cut.tokens) label = record { spelled = cut.tokens; are = refl; reads = w.reads cut.tokens cut.texts_are } in record {
      at = w.at;
      acts = w.acts;
      tokens = cut.tokens;
      spells = record { holds = cut.spells; alone = λ y s. one_spelling (label_line label) y cut.tokens s cut.spells };
      are = cut.texts_are;
      reads = record { holds = reads; alone = event_only (texts cut.tokens) label reads };
    }

pub text_says : (bytes : List ℕ) (label : Label) → IsEventText bytes label → SaysLabel (label_line label) label
text_says bytes label h = let r = read_again bytes label h in only_spelled ReadsEvent (label_line label) r.tokens label r.spells r.reads

-- ---- as a line of a log

-- a colon is no version
no_version : (tokens : Words) (at : List ℕ) (acts : Words) → tokens ≡ at ∷ codes ":" ∷ acts → (stated : Option Version) → StatesVersion tokens stated → ⊥
no_version tokens at acts are stated s =
    let same : codes "log" ∷ s.digits ∷ codes ";" ∷ [] ≡ at ∷ codes ":" ∷ acts = sym s.are ∙ are in
    let colon : s.digits ≡ codes ":" = cc in
    let digit : IsDigit 58 = (subst (λ (z : List ℕ). All IsDigit z) colon s.each) 0 0 (omega arith) in
    omega (arith, digit.0, digit.1)

some_tokens : (tokens : List Token) (at : List ℕ) (acts : Words) → texts tokens ≡ at ∷ codes ":" ∷ acts → 0 < length tokens
some_tokens [] at acts e = absurd cc
some_tokens (t ∷ tokens) at acts e = omega arith

pub line_says : (bytes : List ℕ) (label : Label) → IsEventText bytes label → IsLineOf (label_line label) label
line_says bytes label h = λ version number allowed.
    let r = read_again bytes label h in
    says_spelled log_rules version number (label_line label) r.tokens (Ok (Event label)) r.spells (some_tokens r.tokens r.at r.acts r.are)
    (λ first. no_version (texts r.tokens) r.at r.acts r.are, allowed_event version (texts r.tokens) label r.reads.holds r.reads.alone allowed)
