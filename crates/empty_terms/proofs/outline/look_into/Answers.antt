use Rattle.std.proofs.Common.{◌≡◌, ◌∙◌, ◌++◌, ◌∷◌, [], ℕ, List, length, ap, sym, subst, arith}
use Rattle.chart_term.specs.Terms.{Tree}
use Rattle.empty_terms.specs.Outlines.{IsAt, ArePartsKnown, Grows, parts_in}
use Rattle.empty_terms.proofs.Numbering.{on_ok, parts_known, parts_added}
use Rattle.empty_terms.proofs.outline.look_into.Goals as goal

pub returns-clause-known : goal.returns-clause-known
returns-clause-known c =
    let ts = c.args.terms.now in
    let fs = c.args.firsts.now.items in
    let x = c.in_ok-term.term in
    let at : IsAt ts (length fs) x = subst (λ (k : ℕ). IsAt ts k x) (let e : c.len.result ≡ length fs = omega (arith, c.len.ensures, c.args.firsts.now.ok.0) in e) (subst (λ (y : Tree). IsAt ts c.len.result y) (sym c.in_ok-term.ensures) c.at.ensures) in
    let pushed : c.push.new.self.items ≡ fs ++ length ts ∷ [] = c.in_ok-push.ensures.items ∙ ap (λ (n : ℕ). fs ++ n ∷ []) c.len-2.ensures in
    on_ok (c.push_parts.new.terms ≡ ts ++ parts_in x) (ArePartsKnown c.push_parts.new.terms c.push.new.self.items) c.push_parts.result
    (λ e. subst (λ (l : List Tree). ArePartsKnown l c.push.new.self.items) (sym e) (subst (λ (l : List ℕ). ArePartsKnown (ts ++ parts_in x) l) (sym pushed) (parts_known ts fs x at c.requires.known)))
    c.push_parts.ensures

pub returns-clause-grows : goal.returns-clause-grows
returns-clause-grows c =
    let ts = c.args.terms.now in
    let fs = c.args.firsts.now.items in
    let x = c.in_ok-term.term in
    let at : IsAt ts (length fs) x = subst (λ (k : ℕ). IsAt ts k x) (let e : c.len.result ≡ length fs = omega (arith, c.len.ensures, c.args.firsts.now.ok.0) in e) (subst (λ (y : Tree). IsAt ts c.len.result y) (sym c.in_ok-term.ensures) c.at.ensures) in
    on_ok (c.push_parts.new.terms ≡ ts ++ parts_in x) (Grows (length fs) ts c.push_parts.new.terms) c.push_parts.result (λ e. subst (λ (l : List Tree). Grows (length fs) ts l) (sym e) (parts_added ts (length fs) x at)) c.push_parts.ensures
