use Rattle.std.proofs.Common.{refl, lit<}
use Rattle.std.proofs.lemmas.Str.Pattern.{split_parts}
use Rattle.talk.proofs.Cuts.{cut_at_first}
use Rattle.talk.proofs.parse.cut.Goals as goal

pub returns : goal.returns
returns c =
    let text = c.args.text.now in
    let cut = cut_at_first 32 text _ _ _ (split_parts 32 text _ c.split_once.ensures.cases (lit< tt)) refl refl c.unwrap_or.ensures in
    record { front = cut.0; back = cut.1 }
