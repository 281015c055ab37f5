use Rattle.plain_screen.specs.Touched.{partners_of, valid_partners}
use Rattle.plain_screen.proofs.callers.PlanLemmas.{screen_after-update_plan}
use Rattle.plain_screen.proofs.callers.TouchedLemmas.{ArePartners-partners_of}
use Rattle.plain_laws.proofs.view_laws.partners_stay.Goals as goal

pub returns : goal.returns
returns c = record {
  partners = ArePartners-partners_of;
  plan = λ screen touched window request before after no_others shows numbers.
      screen_after-update_plan screen window request 1 after (valid_partners screen (partners_of touched before after))
      (ArePartners-partners_of screen touched before after no_others shows) numbers;
}
