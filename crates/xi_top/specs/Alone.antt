-- What a session is made with that serves one front end and some plugins.
use Rattle.std.specs.Prelude.{ℕ, ◌^◌}
use Rattle.session_step.specs.declared.terms.Terms.{Terms}

-- so many plugins, and at most so many characters that are inserted into each document
abbrev pub terms_for : ℕ → Terms
terms_for plugins = record { plugins = plugins; limit = 2 ^ 40 }
