-- The labels are a finished run exactly where a certificate holds.
use Rattle.std.specs.Prelude.{ℕ, ◌<◌, List, ◌≡◌, Some}
use Rattle.std.proofs.Common.{ap, sym, ◌∙◌, arith}
use Rattle.msc_base.specs.Patterns.{Position, event_at, Before}
use Rattle.chart_term.specs.Tables.{Tables, terms_over}
use Rattle.chart_term.specs.TermMeanings.{NetTerms}
use Rattle.chart_term.specs.TermPatterns.{Shape, ◌≈◌, back, numbered}
use Rattle.chart_term.specs.TermRuns.{IsLinearRun, label_of}
use Rattle.chart_term.specs.Terms.{Tree}
use Rattle.chart_term.proofs.Running.{runs_same}
use Rattle.term_laws.specs.Residuals.{IsFinishedRun}
use Rattle.term_laws.proofs.TermLaws.{runs_are_linear_orders}
use Rattle.certificates.specs.Certificates.{Certificate, PlacedShape, placed, place_at, label_at, Shows, Holds}
use Rattle.certificates.specs.CertificateLaws.{IsUnbegun, AreUnbegunNets, HasCertificate, CertificatesAreExact}
use Rattle.certificates.proofs.Places.{ArePlaces, order_of, places_of}
use Rattle.certificates.proofs.OtherEvents.{into, out_of, into_out, out_into, event_out, before_out}
use Rattle.certificates.proofs.PlacedShapes.{event_of, unplaced, unplaced_alike, put_at, with_places, placed_alike}
use Rattle.certificates.proofs.Showing.{shown, made}

label_out : (p : PlacedShape) (i : Position (unplaced p)) → label_at p (out_of p event_of i) ≡ label_of (event_at numbered (unplaced p) i)
label_out p i = ap label_of (sym (event_out placed numbered p event_of (unplaced_alike p) i))

-- places of the pattern with places are places of the pattern without
places_out : (w : NetTerms) (x : Tree) (run : List ℕ) (c : Certificate) (h : Holds w x run c) → ArePlaces (λ i. place_at h.pattern (out_of h.pattern event_of i)) (λ i. label_of (event_at numbered (unplaced h.pattern) i)) (Before numbered (unplaced h.pattern)) run
places_out w x run c h = record {
  labelled = λ i. let (k, e, l) = h.labelled (out_of h.pattern event_of i) in (k, e, l ∙ ap Some (label_out h.pattern i));
  once = λ i j e. sym (into_out h.pattern event_of i) ∙ ap (into h.pattern event_of) (h.once (out_of h.pattern event_of i) (out_of h.pattern event_of j) e) ∙ into_out h.pattern event_of j;
  every = λ k l. let (i, e) = h.every k l in (into h.pattern event_of i, ap (place_at h.pattern) (out_into h.pattern event_of i) ∙ e);
  forward = λ i j b. h.forward (out_of h.pattern event_of i) (out_of h.pattern event_of j) ((before_out placed numbered h.pattern event_of (unplaced_alike h.pattern) i j).to b);
}

linear_run : (s : Shape) (place : Position s → ℕ) (run : List ℕ) → ArePlaces place (λ i. label_of (event_at numbered s i)) (Before numbered s) run → IsLinearRun s run
linear_run s place run a = let r = order_of place (λ i. label_of (event_at numbered s i)) (Before numbered s) run a in record { order = r.0; linear = r.1; are = r.2 }

run_of : (s t : Shape) (run : List ℕ) → s ≈ t → IsLinearRun t run → IsLinearRun s run
run_of s t run e h = (runs_are_linear_orders.exact s run).to (runs_same ((runs_are_linear_orders.exact t run).from h) (back e))

finished : (w : Tables) (x : Tree) (run : List ℕ) → AreUnbegunNets (terms_over w) → IsUnbegun x → HasCertificate (terms_over w) x run → IsFinishedRun w x run
finished w x run nets u h =
    let g = h.holds in
    let (s, a, e) = shown (terms_over w) nets.over nets.nodes u g.shows in
    record { pattern = s; has = a; run = run_of s (unplaced g.pattern) run e (linear_run (unplaced g.pattern) (λ i. place_at g.pattern (out_of g.pattern event_of i)) run (places_out (terms_over w) x run h.certificate g)) }

-- places of a pattern, as they stand in the pattern with places
held : (w : NetTerms) (x : Tree) (run : List ℕ) (c : Certificate) (s : Shape) (place : Position s → ℕ) → ArePlaces place (λ i. label_of (event_at numbered s i)) (Before numbered s) run → Shows w x c (with_places s place) → Holds w x run c
held w x run c s place a h = record {
  pattern = with_places s place;
  shows = h;
  labelled = λ i. let (k, e, l) = a.labelled (out_of s (put_at place) i) in (k, at_place i ∙ e, l ∙ ap Some (ap (λ d. d.event.label) (sym (event_out numbered placed s (put_at place) (placed_alike s place) i))));
  once = λ i j e. sym (into_out s (put_at place) i) ∙ ap (into s (put_at place)) (a.once (out_of s (put_at place) i) (out_of s (put_at place) j) (sym (at_place i) ∙ e ∙ at_place j)) ∙ into_out s (put_at place) j;
  every = λ k l. let (i, e) = a.every k l in (into s (put_at place) i, at_place (into s (put_at place) i) ∙ ap place (out_into s (put_at place) i) ∙ e);
  forward = λ i j b. let r = a.forward (out_of s (put_at place) i) (out_of s (put_at place) j) (((before_out numbered placed s (put_at place) (placed_alike s place) i j).to b)) in as_less i j r;
}
  where
    at_place : (i : Position (with_places s place)) → place_at (with_places s place) i ≡ place (out_of s (put_at place) i)
    at_place i = ap (λ d. d.place) (event_out numbered placed s (put_at place) (placed_alike s place) i)

    as_less : (i j : Position (with_places s place)) → place (out_of s (put_at place) i) < place (out_of s (put_at place) j) → place_at (with_places s place) i < place_at (with_places s place) j
    as_less i j r = let e = at_place i in let f = at_place j in omega (arith, r, e, f)

certified : (w : Tables) (x : Tree) (run : List ℕ) → AreUnbegunNets (terms_over w) → IsUnbegun x → IsFinishedRun w x run → HasCertificate (terms_over w) x run
certified w x run nets u h =
    let p = places_of (λ i. label_of (event_at numbered h.pattern i)) (Before numbered h.pattern) h.run.order h.run.linear run h.run.are in
    let c = made (terms_over w) nets.over nets.nodes u h.has p.0 in
    record { certificate = c.0; holds = held (terms_over w) x run c.0 h.pattern p.0 p.1 c.1 }

pub certificates_are_exact : CertificatesAreExact
certificates_are_exact = record { exact = λ w x run nets u. record { to = finished w x run nets u; from = certified w x run nets u } }
