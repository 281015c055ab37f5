-- A RUN THAT NEVER BEGAN, for want of memory.
use Rattle.std.specs.Prelude.{◌≡◌, ◌==◌, List, [], length}
use Rattle.xi_top.specs.declared.run.Report.{Report}

-- all came back as it was, and no plugin was served, if there was one
pub record IsUnstarted {K H P : Type 0} (sink : K) (shelf : H) (plugins : List P) (report : Report K H P) : Type 0 where
  pub status : report.status ≡ 3
  pub empty : report.journal.items ≡ []
  pub sink_is : report.sink ≡ sink
  pub shelf_is : report.shelf ≡ shelf
  pub plugins_are : report.plugins.items ≡ plugins
  pub all_is : report.all_served ≡ (length plugins == 0)
