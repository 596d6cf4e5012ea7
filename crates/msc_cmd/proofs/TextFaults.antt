-- What the text of a document that has been read is.
use Rattle.std.proofs.Common.{◌≡◌, ◌<◌, ◌≤◌, ◌⊎◌, inl, inr, ℕ, List, [], ◌++◌, length, take, arith, sym, refl, ap, ◌∙◌, subst, append-nil, length-append, Result, Ok, Err, IfOk, Option}
use Rattle.std.proofs.lemmas.List.{take_all, take-append-le}
use Rattle.msc_base.specs.declared.limits.TheConstants.Limits.{DOCUMENT_BYTES, NESTING}
use Rattle.msc_base.specs.declared.memory.NoMemory.{NoMemory}
use Rattle.msc_base.specs.declared.place.Place.{Place}
use Rattle.outside.specs.Shelves.{Files}
use Rattle.msc_tokens.specs.Faults.{IfNamed}
use Rattle.msc_tokens.specs.Places.{first_place, past}
use Rattle.msc_tokens.specs.Spelling.{Spells, HasLexFault}
use Rattle.msc_tokens.specs.declared.fault.LexFault.{LexFault}
use Rattle.msc_tokens.specs.declared.fault.LexFault.TheVariants as lexical
use Rattle.msc_tokens.specs.declared.token.Token.{Token}
use Rattle.msc_tokens.proofs.Unique.{one_spelling, not_both}
use Rattle.msc_tree.specs.Charts.{Document}
use Rattle.msc_tree.specs.Views.{document_view}
use Rattle.token_grammar.specs.Refusals.{IsRefusal, IsFault}
use Rattle.token_grammar.specs.declared.fault.ParseFault.{ParseFault}
use Rattle.token_grammar.specs.declared.fault.ParseFault.TheVariants as grammar
use Rattle.msc_rules.specs.declared.rule.Rule.{Rule}
use Rattle.msc_rules.specs.declared.rule.Rule.TheVariants as rule
use Rattle.msc_document.specs.DocumentGrammar.{document as documents}
use Rattle.msc_document.specs.DocumentParts.{IsWritten}
use Rattle.msc_document.proofs.DocumentRules.{one_document}
use Rattle.msc_document.proofs.ParseAnswers.{no_document}
use Rattle.msc_cmd.specs.declared.document_text.DocumentText.{DocumentText}
use Rattle.msc_cmd.specs.declared.document_text.DocumentText.TheVariants.{Read, Refused}
use Rattle.msc_cmd.specs.DocumentTexts.{BreaksRule, BreaksGrammar, HasTextFault, too_long, lexical_fault, grammar_fault, IsOnlyText, IsOnlyTextFault, IsTheText, ReadsAlone, MisreadsAlone, ParsesAs}
use Rattle.msc_cmd.specs.Intakes.{HasTaken, IsPrefixOf, HoldsDocument, IsTextOf}
use Rattle.msc_cmd.specs.declared.intake.Intake.{Intake}

-- where more than the limit was taken, the whole is longer, and begins so
over_long : (prefix bytes : List ℕ) → IsPrefixOf prefix bytes → DOCUMENT_BYTES < length prefix → (DOCUMENT_BYTES < length bytes) × (take DOCUMENT_BYTES prefix ≡ take DOCUMENT_BYTES bytes)
over_long prefix bytes f over =
    (omega (arith, ap length f.are, length-append prefix f.rest), sym (ap (take DOCUMENT_BYTES) f.are ∙ take-append-le DOCUMENT_BYTES prefix f.rest (omega arith)))

-- where no more was taken, it is the whole
within : (prefix bytes : List ℕ) → IsPrefixOf prefix bytes → length prefix ≤ DOCUMENT_BYTES → prefix ≡ bytes
within prefix bytes f short = by f.enough
  where
    by : (f.rest ≡ []) ⊎ (DOCUMENT_BYTES < length prefix) → prefix ≡ bytes
    by (inl e) = sym (f.are ∙ ap (λ (r : List ℕ). prefix ++ r) e ∙ append-nil prefix)
    by (inr over) = absurd (omega arith)

-- a text that is too long has this fault alone
only_long : (bytes : List ℕ) (place : Place) → DOCUMENT_BYTES < length bytes → place ≡ past first_place (take DOCUMENT_BYTES bytes) → IsOnlyTextFault bytes rule.Bytes place
only_long bytes place long is = record {
  is = too_long long refl is;
  only = λ other there h. by other there h;
  none = λ document d. omega (arith, d.short);
}
  where
    by : (other : Rule) (there : Place) → HasTextFault bytes other there → (other ≡ rule.Bytes) × (there ≡ place)
    by other there (too_long l e p) = (e, p ∙ sym is)
    by other there (lexical_fault short fault h b) = absurd (omega arith)
    by other there (grammar_fault short tokens s fault h b) = absurd (omega arith)

-- the rule of a fault of the bytes
broken_one : (fault : LexFault) (a b : Rule) (p q : Place) → BreaksRule fault a p → BreaksRule fault b q → (b ≡ a) × (q ≡ p)
broken_one (lexical.BadByte at) a b p q x y = (y.0 ∙ sym x.0, y.1 ∙ sym x.1)
broken_one (lexical.OpenString at) a b p q x y = (y.0 ∙ sym x.0, y.1 ∙ sym x.1)
broken_one (lexical.OpenNote at) a b p q x y = (y.0 ∙ sym x.0, y.1 ∙ sym x.1)
broken_one (lexical.LongName at) a b p q x y = (y.0 ∙ sym x.0, y.1 ∙ sym x.1)
broken_one lexical.NoMemory a b p q x y = absurd x

-- the rule of a fault of the tokens
misread_one : (fault : ParseFault) (a b : Rule) (p q : Place) → BreaksGrammar fault a p → BreaksGrammar fault b q → (b ≡ a) × (q ≡ p)
misread_one (grammar.Syntax at) a b p q x y = (y.0 ∙ sym x.0, y.1 ∙ sym x.1)
misread_one (grammar.Unsupported form at) a b p q x y = (y.0 ∙ sym x.0, y.1 ∙ sym x.1)
misread_one (grammar.TooDeep at) a b p q x y = (y.0 ∙ sym x.0, y.1 ∙ sym x.1)
misread_one grammar.NoMemory a b p q x y = absurd x

-- a text that has a fault, and no tokens
only_lexical : (bytes : List ℕ) (fault : LexFault) (broken : Rule) (place : Place) → length bytes ≤ DOCUMENT_BYTES → HasLexFault bytes fault → ((other : LexFault) → HasLexFault bytes other → other ≡ fault)
    → ((tokens : List Token) → Spells bytes tokens → ⊥) → BreaksRule fault broken place → IsOnlyTextFault bytes broken place
only_lexical bytes fault broken place short has only none b = record {
  is = lexical_fault short fault has b;
  only = λ other there h. by other there h;
  none = λ document d. none d.tokens d.spells;
}
  where
    by : (other : Rule) (there : Place) → HasTextFault bytes other there → (other ≡ broken) × (there ≡ place)
    by other there (too_long l e p) = absurd (omega arith)
    by other there (lexical_fault s f h x) = broken_one fault broken other place there b (subst (λ (g : LexFault). BreaksRule g other there) (only f h) x)
    by other there (grammar_fault s ts sp f h x) = absurd (none ts sp)

-- a text whose tokens are no document
only_misread : (bytes : List ℕ) (tokens : List Token) (broken : Rule) (place : Place) → length bytes ≤ DOCUMENT_BYTES → Spells bytes tokens → ((others : List Token) → Spells bytes others → others ≡ tokens)
    → ((fault : LexFault) → HasLexFault bytes fault → ⊥) → MisreadsAlone tokens (past first_place bytes) broken place → IsOnlyTextFault bytes broken place
only_misread bytes tokens broken place short spells alone faultless m = record {
  is = grammar_fault short tokens spells m.fault m.is m.breaks;
  only = λ other there h. by other there h;
  none = λ document d. m.none document (subst (λ (ts : List Token). (documents NESTING).reads ts document) (alone d.tokens d.spells) d.reads);
}
  where
    by : (other : Rule) (there : Place) → HasTextFault bytes other there → (other ≡ broken) × (there ≡ place)
    by other there (too_long l e p) = absurd (omega arith)
    by other there (lexical_fault s f h x) = absurd (faultless f h)
    by other there (grammar_fault s ts sp f h x) =
        let same : f ≡ m.fault = m.only f (subst (λ (us : List Token). IsFault documents NESTING us (past first_place bytes) f) (alone ts sp) h) in
        misread_one m.fault broken other place there m.breaks (subst (λ (g : ParseFault). BreaksGrammar g other there) same x)

-- a text whose tokens are a document
only_read : (bytes : List ℕ) (tokens : List Token) (document : Document) → length bytes ≤ DOCUMENT_BYTES → Spells bytes tokens → ((others : List Token) → Spells bytes others → others ≡ tokens)
    → ((fault : LexFault) → HasLexFault bytes fault → ⊥) → ReadsAlone tokens (past first_place bytes) document → IsOnlyText bytes document
only_read bytes tokens document short spells alone faultless r = record {
  is = record { short = short; tokens = tokens; spells = spells; reads = r.reads };
  only = λ other d. r.only other (subst (λ (ts : List Token). (documents NESTING).reads ts other) (alone d.tokens d.spells) d.reads);
  faultless = λ broken place h. by broken place h;
}
  where
    by : (broken : Rule) (place : Place) → HasTextFault bytes broken place → ⊥
    by broken place (too_long l e p) = omega arith
    by broken place (lexical_fault s f h x) = faultless f h
    by broken place (grammar_fault s ts sp f h x) = r.faultless f (subst (λ (us : List Token). IsFault documents NESTING us (past first_place bytes) f) (alone ts sp) h)

-- what is held is the whole text
text_whole : (prefix bytes : List ℕ) (intake : Intake) → HasTaken prefix intake → IsPrefixOf prefix bytes → intake.count ≤ DOCUMENT_BYTES → intake.text.items ≡ bytes
text_whole prefix bytes intake h f small =
    let short : length prefix ≤ DOCUMENT_BYTES = omega (arith, h.counted) in
    h.held ∙ take_all DOCUMENT_BYTES prefix short ∙ within prefix bytes f short

-- a fault that breaks a rule is no want of memory
named : (fault : LexFault) (broken : Rule) (place : Place) (P : Type 0) → BreaksRule fault broken place → IfNamed fault P → P
named (lexical.BadByte at) broken place P b h = h
named (lexical.OpenString at) broken place P b h = h
named (lexical.OpenNote at) broken place P b h = h
named (lexical.LongName at) broken place P b h = h
named lexical.NoMemory broken place P b h = absurd b

refusal : (fault : ParseFault) (broken : Rule) (place : Place) → BreaksGrammar fault broken place → IsRefusal fault
refusal (grammar.Syntax at) broken place b = tt
refusal (grammar.Unsupported form at) broken place b = tt
refusal (grammar.TooDeep at) broken place b = tt
refusal grammar.NoMemory broken place b = absurd b

-- tokens that have a fault
pub misread : (tokens : List Token) (end : Place) (fault : ParseFault) (broken : Rule) (place : Place) → BreaksGrammar fault broken place → (IsRefusal fault → IsFault documents NESTING tokens end fault)
    → (IsRefusal fault → (other : ParseFault) → IsFault documents NESTING tokens end other → other ≡ fault) → (IsRefusal fault → (other : Document) → (documents NESTING).reads tokens other → ⊥)
    → MisreadsAlone tokens end broken place
misread tokens end fault broken place b has only none =
    let is = refusal fault broken place b in
    record { fault = fault; is = has is; breaks = b; only = only is; none = none is }

pub settled_long : (prefix bytes : List ℕ) (intake : Intake) (place : Place) → DOCUMENT_BYTES < intake.count → place ≡ past first_place intake.text.items → HasTaken prefix intake → IsPrefixOf prefix bytes → IsOnlyTextFault bytes rule.Bytes place
settled_long prefix bytes intake place over is h f =
    let l = over_long prefix bytes f (omega (arith, over, h.counted)) in
    only_long bytes place l.0 (is ∙ ap (past first_place) (h.held ∙ l.1))

-- the whole text has a fault
pub whole_fault : (bytes : List ℕ) (fault : LexFault) (broken : Rule) (place : Place) → length bytes ≤ DOCUMENT_BYTES → IfNamed fault (HasLexFault bytes fault) → IfNamed fault ((others : LexFault) → HasLexFault bytes others → others ≡ fault)
    → IfNamed fault ((others : List Token) → Spells bytes others → ⊥) → BreaksRule fault broken place → IsOnlyTextFault bytes broken place
whole_fault bytes fault broken place short has only none b =
    only_lexical bytes fault broken place short (named fault broken place (HasLexFault bytes fault) b has) (named fault broken place ((others : LexFault) → HasLexFault bytes others → others ≡ fault) b only)
    (named fault broken place ((others : List Token) → Spells bytes others → ⊥) b none) b

as_text : (bytes : List ℕ) (tokens : List Token) (text : DocumentText) → length bytes ≤ DOCUMENT_BYTES → Spells bytes tokens → ((others : List Token) → Spells bytes others → others ≡ tokens) → ((fault : LexFault) → HasLexFault bytes fault → ⊥)
    → ParsesAs tokens (past first_place bytes) text → IsTheText bytes text
as_text bytes tokens (Read document) short spells alone faultless r = only_read bytes tokens (document_view document) short spells alone faultless r
as_text bytes tokens (Refused broken place) short spells alone faultless r = only_misread bytes tokens broken place short spells alone faultless r

-- the whole text has these tokens
pub whole_tokens : (bytes : List ℕ) (tokens : List Token) (end : Place) (r : Result DocumentText NoMemory) → length bytes ≤ DOCUMENT_BYTES → Spells bytes tokens → end ≡ past first_place bytes
    → ((others : List Token) → Spells bytes others → others ≡ tokens) → ((fault : LexFault) → HasLexFault bytes fault → ⊥) → IfOk r (ParsesAs tokens end) → IfOk r (IsTheText bytes)
whole_tokens bytes tokens end (Err e) short spells ends only faultless reads = tt
whole_tokens bytes tokens end (Ok text) short spells ends only faultless reads = as_text bytes tokens text short spells only faultless (subst (λ (p : Place). ParsesAs tokens p text) ends reads)

-- the text was read part by part
pub written_text : (bytes : List ℕ) (document : Document) → length bytes ≤ DOCUMENT_BYTES → IsWritten NESTING bytes document → IsOnlyText bytes document
written_text bytes document short w =
    only_read bytes w.tokens document short w.spells (λ others k. one_spelling bytes others w.tokens k w.spells) (λ fault k. not_both bytes w.tokens fault w.spells k)
    (record { reads = w.reads; only = λ other k. one_document NESTING NESTING w.tokens other document k w.reads; faultless = λ fault k. no_document NESTING w.tokens (past first_place bytes) fault k document w.reads })

-- the text that is held is the whole
pub settled_text : (prefix bytes : List ℕ) (intake : Intake) (r : Result DocumentText NoMemory) → intake.count ≤ DOCUMENT_BYTES → IfOk r (IsTheText intake.text.items) → HasTaken prefix intake → IsPrefixOf prefix bytes → IfOk r (IsTheText bytes)
settled_text prefix bytes intake r small reads h f = subst (λ (bs : List ℕ). IfOk r (IsTheText bs)) (text_whole prefix bytes intake h f small) reads

-- what the text of a document that was taken is
pub taken_text : (files : Option Files) (name : List ℕ) (intake : Intake) (r : Result DocumentText NoMemory) → HoldsDocument files name intake
    → ((prefix bytes : List ℕ) → HasTaken prefix intake → IsPrefixOf prefix bytes → IfOk r (IsTheText bytes)) → IfOk r (IsTextOf files name)
taken_text files name intake (Ok text) h settles = record { bytes = h.bytes; held = h.held; is = settles h.prefix h.bytes h.taken h.prefix_of_list }
taken_text files name intake (Err e) h settles = tt
