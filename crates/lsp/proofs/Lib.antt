mod LspLaws
