use Rattle.std.proofs.Common.{sym, ap, ◌∙◌}
use Rattle.std.proofs.lemmas.Result.{err_from_is_err_and}
use Rattle.session.specs.Records.{plain}
use Rattle.session.proofs.Fields.{says_first, found}
use Rattle.session.proofs.decode.first.Goals as goal

pub returns-in_err-decode : goal.returns-in_err-decode
returns-in_err-decode c =
    let s = c.in_ok-kind.ensures in
    let p = err_from_is_err_and c.from_residual-in_err-decode.result c.from_residual-in_err-decode.ensures.1 in
    rw (p.1, p.2) (sym (ap plain c.in_err-decode.was) ∙ c.decode.ensures ∙ says_first c.args.left.now _ _ s.0 s.1)

pub returns : goal.returns
returns c =
    let s = c.in_ok-kind.ensures in
    found c.args.left.now _ _ _ s.0 s.1 s.2 (λ j. (c.type_inv.left j).fits) _ (sym (ap plain c.in_ok-decode.was) ∙ c.decode.ensures)
