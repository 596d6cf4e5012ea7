-- The answers for whole documents.
use Rattle.std.proofs.Common.{ℕ, ◌≡◌, ◌∙◌, List, [], ◌∷◌, length, refl, sym, ap, subst, inl, inr, Result, Ok, Err, IfOk, IfErr}
use Rattle.msc_base.specs.declared.place.Place.{Place}
use Rattle.msc_tokens.specs.declared.token.Token.{Token}
use Rattle.msc_tree.specs.declared.chart.RawDocument.{RawDocument}
use Rattle.msc_tree.specs.Charts.{Document}
use Rattle.msc_tree.specs.Views.{document_view}
use Rattle.token_grammar.specs.Exactness.{IsExact}
use Rattle.token_grammar.specs.Languages.{Read, refused, deep}
use Rattle.token_grammar.specs.Parsing.{IsRefused, IsTooDeep}
use Rattle.token_grammar.specs.declared.fault.ParseFault.{ParseFault}
use Rattle.token_grammar.specs.declared.fault.ParseFault.TheVariants as fault
use Rattle.token_grammar.specs.Refusals.{IsFault, IsRefusal}
use Rattle.token_grammar.specs.Refused.{fault_at}
use Rattle.msc_document.specs.DocumentGrammar.{document}
use Rattle.msc_document.specs.DocumentReaders.{document_at}
use Rattle.msc_document.specs.DocumentAnswers.{IsAnswer}
use Rattle.msc_document.proofs.DocumentRules.{one_document, document_exact, opened_document, proper_document}
use Rattle.msc_document.proofs.Firsts.{one_refused, one_too_deep, not_both, refused_none, deep_none}

module _ (n : ℕ) (ts : List Token) where
  exact_by : (x : Read Document) → document_at n ts ≡ x → IsExact document n ts x
  exact_by x e = subst (IsExact document n ts) e (document_exact n ts)

  pub whole_document : (rest : List Token) (d : Document) → document_at n ts ≡ Ok (d, rest) → rest ≡ [] → (document n).reads ts d
  whole_document [] d e empty = exact_by (Ok (d, [])) e
  whole_document (t ∷ rest) d e empty = cc

  pub left_document : (rest : List Token) (d : Document) → document_at n ts ≡ Ok (d, rest) → (rest ≡ [] → ⊥) → IsRefused document n ts (length rest)
  left_document [] d e some = absurd (some refl)
  left_document (t ∷ rest) d e some = exact_by (Ok (d, t ∷ rest)) e

  pub refused_by : (left : ℕ) → document_at n ts ≡ Err (refused left) → IsRefused document n ts left
  refused_by left e = exact_by (Err (refused left)) e

  pub deep_by : (left : ℕ) → document_at n ts ≡ Err (deep left) → IsTooDeep document n ts left
  deep_by left e = exact_by (Err (deep left)) e

module _ (n : ℕ) (ts : List Token) (end : Place) where
  pub answered : (f : ParseFault) → IsFault document n ts end f → IsAnswer n ts end (Err f)
  answered (fault.Syntax at) h = h
  answered (fault.Unsupported form at) h = h
  answered (fault.TooDeep at) h = h
  answered fault.NoMemory h = tt

  fault_of : (f : ParseFault) → IsRefusal f → IsAnswer n ts end (Err f) → IsFault document n ts end f
  fault_of (fault.Syntax at) is h = h
  fault_of (fault.Unsupported form at) is h = h
  fault_of (fault.TooDeep at) is h = h
  fault_of fault.NoMemory is h = absurd is

  pub no_document : (f : ParseFault) → IsFault document n ts end f → (d : Document) → (document n).reads ts d → ⊥
  no_document f (inl r) d h = refused_none document n ts r.left r.first n d h
  no_document f (inr r) d h = deep_none document n ts (proper_document n) r.left r.first d h

  one_fault : (f g : ParseFault) → IsFault document n ts end f → IsFault document n ts end g → g ≡ f
  one_fault f g (inl r) (inl s) = s.at ∙ ap (λ (l : List Token). fault_at l end) (one_refused document n ts s.left r.left s.first r.first) ∙ sym r.at
  one_fault f g (inr r) (inr s) = s.at ∙ ap (λ (t : Token). fault.TooDeep t.place) (one_too_deep document n ts s.left r.left s.first r.first) ∙ sym r.at
  one_fault f g (inl r) (inr s) = absurd (not_both document n ts (opened_document n) r.left s.left r.first s.first)
  one_fault f g (inr r) (inl s) = absurd (not_both document n ts (opened_document n) s.left r.left s.first r.first)

  pub reads_it : (r : Result RawDocument ParseFault) → IsAnswer n ts end r → IfOk r (λ d. (document n).reads ts (document_view d))
  reads_it (Ok d) h = h
  reads_it (Err f) h = tt

  pub reads_no_other : (r : Result RawDocument ParseFault) → IsAnswer n ts end r → IfOk r (λ d. (m : ℕ) (other : Document) → (document m).reads ts other → other ≡ document_view d)
  reads_no_other (Ok d) h = λ m other k. one_document m n ts other (document_view d) k h
  reads_no_other (Err f) h = tt

  pub reads_faultless : (r : Result RawDocument ParseFault) → IsAnswer n ts end r → IfOk r (λ d. (f : ParseFault) → IsFault document n ts end f → ⊥)
  reads_faultless (Ok d) h = λ f k. no_document f k (document_view d) h
  reads_faultless (Err f) h = tt

  pub reads_none : (r : Result RawDocument ParseFault) → IsAnswer n ts end r → IfErr r (λ f. IsRefusal f → (other : Document) → (document n).reads ts other → ⊥)
  reads_none (Ok d) h = tt
  reads_none (Err f) h = λ is. no_document f (fault_of f is h)

  pub has_fault : (r : Result RawDocument ParseFault) → IsAnswer n ts end r → IfErr r (λ f. IsRefusal f → IsFault document n ts end f)
  has_fault (Ok d) h = tt
  has_fault (Err f) h = λ is. fault_of f is h

  pub has_one_fault : (r : Result RawDocument ParseFault) → IsAnswer n ts end r → IfErr r (λ f. IsRefusal f → (other : ParseFault) → IsFault document n ts end other → other ≡ f)
  has_one_fault (Ok d) h = tt
  has_one_fault (Err f) h = λ is other k. one_fault f other (fault_of f is h) k

-- the same of equal tokens and an equal end
pub moved : (n : ℕ) (ts us : List Token) (end last : Place) (r : Result RawDocument ParseFault) → ts ≡ us → end ≡ last → IsAnswer n ts end r → IsAnswer n us last r
moved n ts us end last r e f h = subst (λ (p : Place). IsAnswer n us p r) f (subst (λ (l : List Token). IsAnswer n l end r) e h)
