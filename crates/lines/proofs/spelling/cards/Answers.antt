use Rattle.std.proofs.Common.{◌≡◌, sym, ◌∙◌, ap, Some, rules}
use Rattle.cards.specs.Codes.{card_code}
use Rattle.cards.proofs.Sets.{with_value}
use Rattle.lines.specs.Spelling.{cards_of}
use Rattle.lines.proofs.Spelled.{low_after, in_order, more}
use Rattle.lines.proofs.spelling.cards.Goals as goal

pub loop-rest-preserved : goal.loop-rest-preserved
loop-rest-preserved c =
    let last = c.loop-rest.last in let card = c.in_ok-card.card in let code = c.from-code.result in
    let same : code ≡ card_code card = search rules in (
      c.with-cards.result.cards,
      more (low_after last) c.loop-rest.cards.0 (cards_of c.args.text.now) code c.with-cards.result.bits c.loop-rest.rest.now (search rules) c.loop-rest.invariant.1
          (sym c.in_ok-card.ensures ∙ ap Some (sym same)) (in_order code last (search rules))
          (rw same (with_value c.loop-rest.cards.0 c.with-cards.result.bits (card_code card) c.with-cards.ensures.members)),
    )
