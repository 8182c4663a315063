use Rattle.std.proofs.lemmas.List.{get_or_default}
use Rattle.sctp_send.proofs.kept.FateLemmas.{read_alike, each_within, read_each}
use Rattle.sctp_send.proofs.kept.blocks.fate_in.Goals as goal

pub bounds-mixed-start : goal.bounds-mixed-start
bounds-mixed-start c = each_within c.args.mixed.now c.args.blocks.now c.args.at _ c.in-Each.start c.requires.within c.requires.there c.in-Each.is

pub returns-in-Alike : goal.returns-in-Alike
returns-in-Alike c = read_alike c.args.mixed.now c.args.blocks.now c.args.at _ c.in-Alike.fate c.requires.within c.requires.there c.in-Alike.is

pub returns-in-Each : goal.returns-in-Each
returns-in-Each c =
    let low = each_within c.args.mixed.now c.args.blocks.now c.args.at _ c.in-Each.start c.requires.within c.requires.there c.in-Each.is in
    read_each c.args.mixed.now c.args.blocks.now c.args.at _ c.in-Each.start _ c.requires.within c.requires.there c.in-Each.is (get_or_default c.args.mixed.now _ _ _ low)
