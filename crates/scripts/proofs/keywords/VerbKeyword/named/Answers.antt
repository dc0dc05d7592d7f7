use Rattle.std.proofs.Common.{rules}
use Rattle.scripts.specs.Keywords.{verbs}
use Rattle.scripts.proofs.Names.{unnamed}
use Rattle.scripts.proofs.keywords.VerbKeyword.named.Goals as goal

pub returns-in_default-38 : goal.returns-in_default-38
returns-in_default-38 c = unnamed verbs c.args.token.now (search rules)

pub returns-in_default-65 : goal.returns-in_default-65
returns-in_default-65 c = unnamed verbs c.args.token.now (search rules)

pub returns-in_default-66 : goal.returns-in_default-66
returns-in_default-66 c = unnamed verbs c.args.token.now (search rules)
