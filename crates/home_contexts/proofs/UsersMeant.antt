-- The users of a file are those that its grammar gives.
use Rattle.std.proofs.Common.{◌≡◌, ◌∙◌, ap, refl, subst, ℕ, true, false, cond, List, [], ◌∷◌}
use Rattle.std.specs.Prelude.{◌↔◌, ◌&&◌, Result, Ok, Err}
use Rattle.std.proofs.lemmas.Bool.{and_from, and_parts}
use Rattle.context_syntax.specs.Context.{is_word}
use Rattle.file_paths.specs.Path.{Path, path_read}
use Rattle.file_paths.specs.declared.path_fault.PathWhy.{PathWhy}
use Rattle.label_base.specs.declared.lines.RefusedLine.{RefusedLine}
use Rattle.label_base.proofs.LinesMeant.{lines_mean}
use Rattle.home_contexts.specs.User.{IsUser, UserValue, is_home, is_user}
use Rattle.home_contexts.specs.UserGrammar.{AreUserFields, UserFieldsMean, UsersMean}
use Rattle.home_contexts.specs.UserLines.{no_user, user_in, users_of, with_home}
use Rattle.home_contexts.specs.declared.users_fault.NoUser.{NoUser}

-- ---- a user's test and its facts

parts_of : (user : UserValue) → is_user user ≡ true → IsUser user
parts_of user h =
    let both = and_parts (is_word user.name) (is_word user.role && is_home user.home) h in
    let others = and_parts (is_word user.role) (is_home user.home) both.1 in
    record { name = both.0; role = others.0; home = others.1 }

of_parts : (user : UserValue) → IsUser user → is_user user ≡ true
of_parts user h = and_from (is_word user.name) (is_word user.role && is_home user.home) h.name
    (and_from (is_word user.role) (is_home user.home) h.role h.home)

-- ---- fields

same_user : (name role home : List ℕ) (rest : List (List ℕ)) (path : Path) (user : UserValue) →
    path_read home ≡ Ok path → AreUserFields (name ∷ role ∷ home ∷ rest) user → user ≡ record {
      name =
          name;
      role = role;
      home = path;
    }
same_user name role home rest path user e h =
    let cut = h.cut in
    let read = h.path in
    let a : user.name ≡ name = cc in
    let b : user.role ≡ role = cc in
    let c : user.home ≡ path = cc in
    let first : user ≡ record { name = name; role = user.role; home = user.home } = ap (λ n. record
    { name = n; role = user.role; home = user.home }) a in
    let second : record { name = name; role = user.role; home = user.home } ≡ record {
      name = name;
      role = role;
      home = user.home;
    } = ap (λ r. record {
      name = name;
      role = r;
      home =
          user.home;
    }) b in
    first ∙ second ∙ ap (λ p. record { name = name; role = role; home = p }) c

no_path : (name role home : List ℕ) (rest : List (List ℕ)) (why : PathWhy) (user : UserValue) →
    path_read home ≡ Err why → ¬ AreUserFields (name ∷ role ∷ home ∷ rest) user
no_path name role home rest why user e h = let cut = h.cut in let read = h.path in cc

home_sound : (name role home : List ℕ) (rest : List (List ℕ)) (read : Result Path PathWhy) →
    path_read home ≡ read → UserFieldsMean 0 (name ∷ role ∷ home ∷ rest) (with_home name role read)
home_sound name role home rest (Ok path) e =
    let user : UserValue = record { name = name; role = role; home = path } in
    elim (is_user user) as (λ v. is_user user ≡ v → UserFieldsMean 0 (name ∷ role ∷ home ∷ rest)
    (cond v
    (Ok user) (Err no_user))) [
      | true ↦ λ t. record {
        home = home;
        rest = rest;
        cut = refl;
        path = e;
        parts = parts_of user t;
      }
      | false ↦ λ f other h.
          let same = same_user name role home rest path other e h in
          let t : is_user user ≡ true = subst (λ u. is_user u ≡ true) same (of_parts other h.parts)
          in
          cc
    ] refl
home_sound name role home rest (Err why) e = λ user. no_path name role home rest why user e

fields_sound : (number : ℕ) (fields : List (List ℕ)) → UserFieldsMean number fields (user_in fields)
fields_sound number [] = λ user h. let cut = h.cut in cc
fields_sound number (name ∷ []) = λ user h. let cut = h.cut in cc
fields_sound number (name ∷ role ∷ []) = λ user h. let cut = h.cut in cc
fields_sound number (name ∷ role ∷ home ∷ rest) = home_sound name role home rest (path_read home)
    refl

err_complete : (fields : List (List ℕ)) (why : NoUser) (read : Result UserValue NoUser)
    → UserFieldsMean
    0 fields read → ((user : UserValue) → ¬ AreUserFields fields user) → read ≡ Err why
err_complete fields why (Ok user) h nothing = absurd (nothing user h)
err_complete fields why (Err other) h nothing = refl

fields_complete : (number : ℕ) (fields : List (List ℕ)) (meant : Result UserValue NoUser) →
    UserFieldsMean number fields meant → user_in fields ≡ meant
fields_complete number fields (Ok user) h =
    ap user_in h.cut
    ∙ ap (with_home user.name user.role) h.path
    ∙ ap (λ v. cond v (Ok user) (Err no_user)) (of_parts user h.parts)
fields_complete number fields (Err why) h = err_complete fields why (user_in fields) (fields_sound 0
    fields) h

fields_mean : (number : ℕ) (fields : List (List ℕ)) (meant : Result UserValue NoUser) → (user_in
    fields ≡ meant) ↔ UserFieldsMean number fields meant
fields_mean number fields meant = (
  λ read. subst (UserFieldsMean number fields) read (fields_sound
      number fields),
  fields_complete number fields meant,
)

pub users_mean : (text : List ℕ) (meant : Result (List UserValue) (RefusedLine NoUser)) → (users_of
    text ≡ meant) ↔ UsersMean text meant
users_mean text meant = lines_mean UserFieldsMean (λ number. user_in) fields_mean text meant
