use Rattle.std.proofs.Common.{rules, Ok, Some}
use Rattle.scripts.specs.Tokens.{tokens}
use Rattle.scripts.proofs.Ranges.{in_range}
use Rattle.scripts.proofs.understand.understand.Goals as goal

pub returns-in-None-clause-range : goal.returns-in-None-clause-range
returns-in-None-clause-range c = in_range (Ok (Some c.in_ok-command.command)) (tokens c.args.line.now) (search rules)
