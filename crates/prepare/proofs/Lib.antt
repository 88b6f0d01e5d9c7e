mod PrepareLaws
