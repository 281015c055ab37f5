use Rattle.std.proofs.Common.{[], ◌∷◌, ◌++◌, ap, ◌∙◌}
use Rattle.std.specs.Str.{chars}
use Rattle.run_folder.proofs.FolderLemmas.{named}
use Rattle.run_folder.proofs.part.path_of.Goals as goal

pub returns : goal.returns
returns c =
    let folder = c.args.folder.now in
    let name = c.name.result.now in
    c.in_ok-push_str.ensures.pushed ∙
    ap (λ path. path ++ chars name)
    (c.in_ok-push.ensures.pushed ∙ ap (λ path. path ++ 47 ∷ []) (c.in_ok-path.ensures.made ∙ c.as_str.ensures.characters)) ∙
    ap (λ last. (folder ++ 47 ∷ []) ++ last) (named c.args.part name c.name.ensures)
