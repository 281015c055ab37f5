use Rattle.std.proofs.Common.{refl, subst}
use Rattle.crew_cases.specs.Desk.{Adds, adds_told}
use Rattle.crew_cases.proofs.desk.Desk.push.Goals as goal

pub returns-clause-adds : goal.returns-clause-adds
returns-clause-adds c =
    let after = c.push_reserved.new.self.items in
    subst (λ before. Adds before c.args.caller c.args.reply after) c.reserve.ensures.items
    (adds_told c.reserve.new.self.items after c.args.caller _ c.args.sent c.args.reply c.requires c.push_reserved.ensures.items refl refl)
