-- Documents whose text is read part by part.
use Rattle.std.proofs.Common.{◌≡◌, ◌==◌, ◌∙◌, ◌++◌, ◌⊎◌, Bool, true, false, cond, ℕ, List, [], ◌∷◌, length, arith, eqb-true, refl, sym, ap, ap₂, inl, inr, subst, append_assoc, append-nil, Option, Some, None, Ok, Err, codes}
use Rattle.msc_tokens.specs.declared.token.Token.{Token}
use Rattle.msc_tokens.specs.Machine.{State}
use Rattle.msc_tokens.specs.Parts.{Cuts}
use Rattle.msc_tokens.specs.Spelling.{Spells}
use Rattle.msc_tree.specs.declared.chart.Heading.{Heading}
use Rattle.msc_tree.specs.Charts.{Chart, Document}
use Rattle.token_grammar.specs.Languages.{Read, ◌>>=◌, just, starts}
use Rattle.token_grammar.specs.Languages as rules
use Rattle.token_grammar.specs.Grammars.{Grammar, behind}
use Rattle.token_grammar.specs.Parts.{ending}
use Rattle.token_grammar.proofs.Base.{Meant}
use Rattle.token_grammar.proofs.Levels.{reads_of, brink_of}
use Rattle.token_grammar.proofs.Optionals.{none}
use Rattle.msc_events.specs.Declarations.{heading}
use Rattle.msc_events.specs.DeclarationReaders.{heading_at}
use Rattle.msc_events.proofs.DeclarationRules.{heading_rule}
use Rattle.msc_document.specs.DocumentGrammar.{chart, document}
use Rattle.msc_document.specs.DocumentReaders.{chart_at, document_end_at}
use Rattle.msc_document.specs.ChartReaders.{some_end_at}
use Rattle.msc_document.specs.DocumentParts.{IsNew, Begun, Continues, Ends, HasRead, Moves, IsAt, IsWritten}
use Rattle.msc_document.proofs.ChartRules.{chart_rule}
use Rattle.msc_document.proofs.DocumentRules.{document_end_rule}

pub no_bytes : (bytes : List ℕ) → (length bytes == 0) ≡ true → bytes ≡ []
no_bytes [] e = refl
no_bytes (b ∷ bytes) e = let h = eqb-true (length (b ∷ bytes)) 0 e in absurd (omega arith)

module _ (n : ℕ) where
  each_more : (x y : List Token) (bs cs : List Chart) → rules.each (chart n).reads x bs → rules.each (chart n).reads y cs → rules.each (chart n).reads (x ++ y) (bs ++ cs)
  each_more x y [] cs h k = subst (λ (l : List Token). rules.each (chart n).reads (l ++ y) cs) (sym h) k
  each_more x y (b ∷ bs) cs h k = (h.0, h.1 ++ y, ap (λ (l : List Token). l ++ y) h.2 ∙ append_assoc h.0 h.1 y, h.3, each_more h.1 y bs cs h.4 k)

  -- ---- the document goes on

  pub goes_not : (tokens : List Token) (d : Document) → Continues n tokens tokens d d
  goes_not tokens d = record { used = []; cut = refl; goes = λ before h. subst (λ (l : List Token). Begun n l d) (sym (append-nil before)) h }

  pub goes_both : (tokens middle rest : List Token) (d e f : Document) → Continues n tokens middle d e → Continues n middle rest e f → Continues n tokens rest d f
  goes_both tokens middle rest d e f h k = record {
    used = h.used ++ k.used;
    cut = h.cut ∙ ap (λ (l : List Token). h.used ++ l) k.cut ∙ sym (append_assoc h.used k.used rest);
    goes = λ before b. subst (λ (l : List Token). Begun n l f) (append_assoc before h.used k.used) (k.goes (before ++ h.used) (h.goes before b));
  }

  -- by a chart
  pub chart_goes : (tokens rest : List Token) (c : Chart) (d e : Document) → chart_at n tokens ≡ Ok (c, rest) → e ≡ record d { charts = d.charts ++ c ∷ [] } → Continues n tokens rest d e
  chart_goes tokens rest c d e read is =
      let t = subst (λ (x : Read Chart). Meant (reads_of chart) (brink_of chart) n (just (codes "msc")) none tokens x) read ((chart_rule n).meant tokens) in
      record {
        used = t.used;
        cut = t.cut;
        goes = λ before h. subst (λ (f : Document). Begun n (before ++ t.used) f) (sym is)
            (h.0, h.1 ++ t.used, ap (λ (l : List Token). l ++ t.used) h.2 ∙ append_assoc h.0 h.1 t.used, h.3, each_more h.1 t.used d.charts (c ∷ []) h.4 (t.used, [], sym (append-nil t.used), t.holds, refl));
      }

  -- of a document that is new nothing has been read
  none_read : (before : List Token) (d : Document) → IsNew d → Begun n before d → before ≡ []
  none_read before d new h = h.2 ∙ ap₂ (λ (a b : List Token). a ++ b) (no_heading d.heading new.0 h.3) (subst (λ (cs : List Chart). rules.each (chart n).reads h.1 cs) new.1 h.4)
    where
      no_heading : (o : Option Heading) → o ≡ None → ((h.0 ≡ []) × (o ≡ None)) ⊎ ((a : Heading) × heading.reads h.0 a × (o ≡ Some a)) → h.0 ≡ []
      no_heading o e (inl k) = k.0
      no_heading o e (inr (a, k, same)) = cc

  -- by its heading
  pub heading_goes : (tokens rest : List Token) (a : Heading) (d e : Document) → heading_at tokens ≡ Ok (a, rest) → IsNew d → e ≡ record d { heading = Some a } → Continues n tokens rest d e
  heading_goes tokens rest a d e read new is =
      let t = subst (λ (x : Read Heading). Meant (reads_of (λ m. heading)) (brink_of (λ m. heading)) n (just (codes "mscdocument")) none tokens x) read ((heading_rule n).meant tokens) in
      record {
        used = t.used;
        cut = t.cut;
        goes = λ before h. subst (λ (f : Document). Begun n (before ++ t.used) f) (sym is)
            (t.used, [], ap (λ (l : List Token). l ++ t.used) (none_read before d new h) ∙ sym (append-nil t.used), inr (a, t.holds, refl), subst (λ (cs : List Chart). rules.each (chart n).reads [] cs) (sym new.1) refl);
      }

  -- ---- the document ends

  abbrev document_end : Grammar (Unit {0})
  document_end = behind (just (codes "endmscdocument")) ending

  pub record Ending (tokens : List Token) : Type 0 where
    pub end : Option (Unit {0})
    pub reads : ((tokens ≡ []) × (end ≡ None)) ⊎ ((a : Unit {0}) × document_end.reads tokens a × (end ≡ Some a))

  -- the end was read up to there
  abbrev at_rest : List Token → Read (Unit {0})
  at_rest rest = Ok (tt, rest)

  same_rest : (a b : List Token) → at_rest a ≡ at_rest b → a ≡ b
  same_rest a b e = let both : (tt {0}, a) ≡ (tt {0}, b) = cc in ap (λ (p : Unit {0} × List Token). p.1) both

  no_rest : (c : Token) (rest tokens : List Token) → c ∷ rest ≡ [] → Ending tokens
  no_rest c rest tokens e = cc

  end_read : (tokens : List Token) (r : Read (Unit {0})) → document_end_at tokens ≡ r → (r >>= λ x. at_rest x.1) ≡ at_rest [] → Ending tokens
  end_read tokens (Ok (u, [])) e same =
      let t = subst (λ (x : Read (Unit {0})). Meant (reads_of (λ m. document_end)) (brink_of (λ m. document_end)) n (just (codes "endmscdocument")) none tokens x) e ((document_end_rule n).meant tokens) in
      record { end = Some u; reads = inr (u, subst (λ (l : List Token). document_end.reads l u) (sym (t.cut ∙ append-nil t.used)) t.holds, refl) }
  end_read tokens (Ok (u, c ∷ rest)) e same = no_rest c rest tokens (same_rest (c ∷ rest) [] same)
  end_read tokens (Err s) e same = cc

  end_choice : (tokens : List Token) (b : Bool) → cond b (document_end_at tokens >>= λ x. at_rest x.1) (at_rest tokens) ≡ at_rest [] → Ending tokens
  end_choice tokens true same = end_read tokens (document_end_at tokens) refl same
  end_choice tokens false same = record { end = None; reads = inl (same_rest tokens [] same, refl) }

  pub ending_of : (tokens rest : List Token) → some_end_at tokens ≡ at_rest rest → rest ≡ [] → Ending tokens
  ending_of tokens rest e empty = end_choice tokens (starts (just (codes "endmscdocument")) tokens) (e ∙ ap at_rest empty)

  pub goes_end : (tokens rest : List Token) (d e : Document) → Continues n tokens rest d e → Ending rest → Ends n tokens d e
  goes_end tokens rest d e h k = record {
    ends = λ before b.
        let g = h.goes before b in (
          (e.heading, (e.charts, k.end)),
          (g.0, g.1 ++ rest, ap (λ (l : List Token). before ++ l) h.cut ∙ sym (append_assoc before h.used rest) ∙ ap (λ (l : List Token). l ++ rest) g.2 ∙ append_assoc g.0 g.1 rest, g.3, (g.1, rest, refl, g.4, k.reads)),
          refl,
        );
  }

  -- ---- the text

  -- before the first byte
  pub at_start : (bytes : List ℕ) (lexer : State) (d : Document) → Cuts [] [] lexer → IsNew d → IsAt n bytes bytes lexer d
  at_start bytes lexer d cuts new = record {
    part = [];
    cut = refl;
    read = record {
      taken = [];
      cuts = cuts;
      begun = ([], [], refl, inl (refl, new.0), subst (λ (cs : List Chart). rules.each (chart n).reads [] cs) (sym new.1) refl);
    };
  }

  pub at_next : (bytes rest next : List ℕ) (lexer later : State) (d e : Document) → IsAt n bytes rest lexer d → Moves n rest next lexer d later e → IsAt n bytes next later e
  at_next bytes rest next lexer later d e h m = record {
    part = h.part ++ m.part;
    cut = h.cut ∙ ap (λ (bs : List ℕ). h.part ++ bs) m.cut ∙ sym (append_assoc h.part m.part next);
    read = m.goes h.part h.read;
  }

  pub at_end : (bytes rest : List ℕ) (lexer : State) (d : Document) → rest ≡ [] → IsAt n bytes rest lexer d → HasRead n bytes lexer d
  at_end bytes rest lexer d e h = subst (λ (bs : List ℕ). HasRead n bs lexer d) (sym (h.cut ∙ ap (λ (bs : List ℕ). h.part ++ bs) e ∙ append-nil h.part)) h.read

  -- bytes in which no chart ends
  pub moves_bytes : (bytes part next : List ℕ) (lexer later : State) (d : Document) → bytes ≡ part ++ next → ((before : List ℕ) (taken : List Token) → Cuts before taken lexer → Cuts (before ++ part) taken later)
      → Moves n bytes next lexer d later d
  moves_bytes bytes part next lexer later d cut feeds = record { part = part; cut = cut; goes = λ before h. record { taken = h.taken; cuts = feeds before h.taken h.cuts; begun = h.begun } }

  -- bytes with charts
  pub moves_charts : (bytes part next : List ℕ) (tokens slice : List Token) (lexer middle later : State) (d e : Document) → bytes ≡ part ++ next
      → ((before : List ℕ) (taken : List Token) → Cuts before taken lexer → Cuts (before ++ part) taken middle)
      → ((before : List ℕ) (taken : List Token) → Cuts before taken middle → Cuts before (taken ++ tokens) later) → slice ≡ tokens → Continues n slice [] d e → Moves n bytes next lexer d later e
  moves_charts bytes part next tokens slice lexer middle later d e cut feeds takes same c = record {
    part = part;
    cut = cut;
    goes = λ before h. record {
      taken = h.taken ++ tokens;
      cuts = takes (before ++ part) h.taken (feeds before h.taken h.cuts);
      begun = subst (λ (l : List Token). Begun n (h.taken ++ l) e) (sym (append-nil c.used) ∙ sym c.cut ∙ same) (c.goes h.taken h.begun);
    };
  }

  -- the text has ended
  pub written : (bytes : List ℕ) (list slice : List Token) (lexer : State) (d e : Document) → ((before : List ℕ) (taken : List Token) → Cuts before taken lexer → Spells before (taken ++ list)) → slice ≡ list → Ends n slice d e
      → HasRead n bytes lexer d → IsWritten n bytes e
  written bytes list slice lexer d e spells same k h = record {
    tokens = h.taken ++ list;
    spells = spells bytes h.taken h.cuts;
    reads = subst (λ (l : List Token). (document n).reads (h.taken ++ l) e) same (k.ends h.taken h.begun);
  }
