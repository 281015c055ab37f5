-- Members of parameters, and the lists of them that methods have.
use Rattle.std.specs.Prelude.{ℕ, Bool, true, false, List, [], ◌∷◌, codes}
use Rattle.case_front.specs.declared.member.Kind.{Kind}
use Rattle.case_front.specs.declared.member.Kind.TheVariants.{Word, Whole, Truth, Object, Any}
use Rattle.case_front.specs.declared.member.Member.{Member}
use Rattle.case_front.specs.declared.members.Members.{Members}
use Rattle.case_front.specs.declared.members.Members.TheVariants as Held

-- a member: its name, what it has to be, and whether it may be left out
pub record PlainMember : Type 0 where
  pub name : List ℕ
  pub kind : Kind
  pub optional : Bool

-- the member that a value in memory is
abbrev pub plain_member : Member → PlainMember
plain_member m = record { name = m.name.now; kind = m.kind; optional = m.optional }

-- a member that has to be there, and one that may be left out
abbrev pub needed : List ℕ → Kind → PlainMember
needed name kind = record { name = name; kind = kind; optional = false }

abbrev pub may_miss : List ℕ → Kind → PlainMember
may_miss name kind = record { name = name; kind = kind; optional = true }

-- the members of a line
abbrev pub view : List PlainMember
view = needed (codes "view_id") Word ∷ []

abbrev pub view_and_path : List PlainMember
view_and_path = needed (codes "view_id") Word ∷ needed (codes "file_path") Word ∷ []

abbrev pub path_if_any : List PlainMember
path_if_any = may_miss (codes "file_path") Word ∷ []

abbrev pub domain_and_changes : List PlainMember
domain_and_changes = needed (codes "domain") Any ∷ needed (codes "changes") Object ∷ []

abbrev pub edit_members : List PlainMember
edit_members = needed (codes "view_id") Word ∷ needed (codes "method") Word ∷ may_miss (codes "params") Any ∷ []

-- the members of what `edit` names: a number names the item of a list
abbrev pub chars_alone : List PlainMember
chars_alone = needed (codes "chars") Word ∷ []

abbrev pub two_numbers : List PlainMember
two_numbers = needed (codes "0") Whole ∷ needed (codes "1") Whole ∷ []

abbrev pub three_numbers : List PlainMember
three_numbers = needed (codes "0") Whole ∷ needed (codes "1") Whole ∷ needed (codes "2") Whole ∷ []

abbrev pub four_numbers : List PlainMember
four_numbers = needed (codes "0") Whole ∷ needed (codes "1") Whole ∷ needed (codes "2") Whole ∷ needed (codes "3") Whole ∷ []

abbrev pub touch_members : List PlainMember
touch_members = needed (codes "line") Whole ∷ needed (codes "col") Whole ∷ needed (codes "ty") Word ∷ []

abbrev pub line_alone : List PlainMember
line_alone = needed (codes "line") Whole ∷ []

abbrev pub search_members : List PlainMember
search_members =
    needed (codes "chars") Word ∷ may_miss (codes "case_sensitive") Truth ∷ may_miss (codes "regex") Truth ∷
    may_miss (codes "whole_words") Truth ∷ []

abbrev pub match_members : List PlainMember
match_members = may_miss (codes "wrap_around") Truth ∷ may_miss (codes "allow_same") Truth ∷ []

-- the list that a value in memory stands for
abbrev pub members_of : Members → List PlainMember
members_of Held.Nothing = []
members_of Held.View = view
members_of Held.ViewAndPath = view_and_path
members_of Held.PathIfAny = path_if_any
members_of Held.DomainAndChanges = domain_and_changes
members_of Held.Edit = edit_members
members_of Held.Chars = chars_alone
members_of Held.TwoNumbers = two_numbers
members_of Held.ThreeNumbers = three_numbers
members_of Held.FourNumbers = four_numbers
members_of Held.Touch = touch_members
members_of Held.Line = line_alone
members_of Held.Search = search_members
members_of Held.Match = match_members
