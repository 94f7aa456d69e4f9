use Rattle.std.specs.Option.{option_map, option_or}
use Rattle.std.proofs.Common.{◌≡◌, ℕ, Some, None, ◌<◌, ◌≤◌, List, map, length, take, Ok, Err, Option, Result, sym, refl, ap, ◌∙◌, arith, length-set, rules}
use native.Mathlib.Nat.{sub-zero}
use Rattle.std.proofs.lemmas.List.{length-take-le, take-append-le}
use Rattle.cards.specs.Numbers.{bits_of}
use Rattle.cards.specs.declared.set.CardSet.{CardSet}
use Rattle.lines.specs.Counts.{listed}
use Rattle.lines.specs.declared.fault.Fault.{Fault}
use Rattle.lines.specs.declared.deal.Layout.{Layout}
use Rattle.lines.specs.Deals.{Defence}
use Rattle.lines.specs.Fields.{here}
use Rattle.lines.specs.Problems.{defence}
use Rattle.lines.specs.Reading.{first_cards, layout_at}
use Rattle.lines.proofs.Layouts.{first_step, one_more, read_one, read_fault, all_read, surplus}
use Rattle.lines.proofs.reader.layouts.Goals as goal

-- the number of the first of two sets
firsts : (o : Option CardSet) (u : CardSet) (r : Option CardSet) → r ≡ option_or o (Some u) → option_map bits_of r ≡ option_or (option_map bits_of o) (Some (bits_of u))
firsts None u r e = ap (option_map bits_of) e
firsts (Some x) u r e = ap (option_map bits_of) e

pub loop-place-init : goal.loop-place-init
loop-place-init c =
    let n = length-take-le c.get.result _ c.get.ensures.few ∙ c.get.ensures.value in
    record { places = n; last = n; known = refl; goes = rw sub-zero refl }

pub returns-in_err-hand1 : goal.returns-in_err-hand1
returns-in_err-hand1 c =
    let s = here c.loop-place.fields in
    let i = c.loop-place.invariant in
    let left : c.loop-place.place-index < listed c.args.count = let t = c.loop-place-test.true in let e = i.last in omega arith in
    let e : ◌≡◌ {A = Result Defence Fault} (Err c.in_err-hand1.field-0.0) (layout_at (bits_of c.args.hand0) (bits_of c.args.hand2) _ s) =
    c.in_err-hand1.ensures.value ∙ ap (λ (o : Option ℕ). layout_at (bits_of c.args.hand0) (bits_of c.args.hand2) o s) i.known in
    let h = read_fault (listed c.args.count) (bits_of c.args.hand0) (bits_of c.args.hand2) c.loop-place.place-index c.loop-place.place-items s _ left i.goes c.in_err-hand1.field-0.0 e in
    search rules

pub loop-place-preserved : goal.loop-place-preserved
loop-place-preserved c =
    let s = here c.loop-place.fields in
    let i = c.loop-place.invariant in
    let x : Layout = record { hand1 = c.in_ok-hand1.field-0.hand1; hand3 = c.in_ok-hand1.field-0.hand3 } in
    let left : c.loop-place.place-index < listed c.args.count = let t = c.loop-place-test.true in let e = i.last in omega arith in
    let l : c.loop-place.place-index < length c.loop-place.place-items = let p = i.places in omega arith in
    let e : ◌≡◌ {A = Result Defence Fault} (Ok (defence x)) (layout_at (bits_of c.args.hand0) (bits_of c.args.hand2) _ s) =
    c.in_ok-hand1.ensures.value ∙ ap (λ (o : Option ℕ). layout_at (bits_of c.args.hand0) (bits_of c.args.hand2) o s) i.known in
    record {
      places = length-set c.loop-place.place-items c.loop-place.place-index x ∙ i.places;
      last = i.last;
      known = first_step (map defence (take c.loop-place.place-index c.loop-place.place-items)) (defence x) (bits_of c.union.result) (option_map bits_of c.loop-place.first) (option_map bits_of c.or-first.result)
          i.known c.union.ensures.value (firsts c.loop-place.first c.union.result c.or-first.result c.or-first.ensures)
          ∙ ap first_cards (sym (one_more c.loop-place.place-items c.loop-place.place-index x l));
      goes = read_one (listed c.args.count) (bits_of c.args.hand0) (bits_of c.args.hand2) c.loop-place.place-index c.loop-place.place-items s _ left i.goes
          x (here c.layout.new.fields) l e (c.in_ok-hand1.ensures.goes refl);
    }

pub returns-in_err-end : goal.returns-in_err-end
returns-in_err-end c =
    let s = here c.loop-place.fields in
    let i = c.loop-place.invariant in
    let d : c.loop-place.place-index ≡ listed c.args.count = let t = c.loop-place-test.false in let a = c.loop-place.auto.place-index-end in let e = i.last in omega arith in
    let h = surplus (listed c.args.count) (bits_of c.args.hand0) (bits_of c.args.hand2) c.loop-place.place-index c.loop-place.place-items s _ d i.goes c.in_err-end.field-0.0 c.in_err-end.ensures in
    search rules

pub returns : goal.returns
returns c =
    let s = here c.loop-place.fields in
    let i = c.loop-place.invariant in
    let d : c.loop-place.place-index ≡ listed c.args.count = let t = c.loop-place-test.false in let a = c.loop-place.auto.place-index-end in let e = i.last in omega arith in
    let l : listed c.args.count ≤ length c.loop-place.place-items = let p = i.places in omega arith in
    ap (λ (xs : List Layout). Ok (map defence xs)) (take-append-le (listed c.args.count) c.loop-place.place-items _ l)
    ∙ all_read (listed c.args.count) (bits_of c.args.hand0) (bits_of c.args.hand2) c.loop-place.place-index c.loop-place.place-items s _ d i.goes c.in_ok-end.ensures
